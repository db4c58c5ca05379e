use Rattle.std.proofs.Common.{arith}
use Rattle.std.proofs.lemmas.Str.Pattern.{split_parts}
use Rattle.lockfile.proofs.Meant.{name-place}
use Rattle.lockfile.proofs.meaning.place.Goals as goal

pub returns-in_default : goal.returns-in_default
returns-in_default c =
    let whole = split_parts 32 c.args.text.now c.split_once.result c.split_once.ensures.cases (omega arith) in
    name-place c.args.packages.now c.args.text.now _ _
    (rw c.in_default.is at whole) c.named_place.ensures c.ok_or.ensures.value

pub place_with_source-requires-clause-name : goal.place_with_source-requires-clause-name
place_with_source-requires-clause-name c =
    let split = split_parts 32 c.args.text.now c.split_once.result c.split_once.ensures.cases (omega arith) in
    (rw c.in-Some.is at split).1

pub place_with_source-requires-clause-version_text : goal.place_with_source-requires-clause-version_text
place_with_source-requires-clause-version_text c =
    let split = split_parts 32 c.in-Some.rest.now c.split_once-2.result c.split_once-2.ensures.cases (omega arith) in
    (rw c.in-Some-split_once.is at split).1

pub place_with_version-requires-clause-name : goal.place_with_version-requires-clause-name
place_with_version-requires-clause-name c =
    let split = split_parts 32 c.args.text.now c.split_once.result c.split_once.ensures.cases (omega arith) in
    (rw c.in-Some.is at split).1

pub place_with_version-requires-clause-version_text : goal.place_with_version-requires-clause-version_text
place_with_version-requires-clause-version_text c =
    let whole = split_parts 32 c.in-Some.rest.now c.split_once-2.result c.split_once-2.ensures.cases (omega arith) in
    rw c.in-None.is at whole
