use Rattle.std.proofs.Common.{◌≡◌, Some, Err, map, sym, ap, ◌∙◌}
use Rattle.json.specs.Lex.{tokens}
use Rattle.json.specs.Tape.{node_token}
use Rattle.trees.specs.inner.Parts.{read_within}
use Rattle.trees.specs.Trees.{tokens_view}
use Rattle.trees.proofs.ReadLemmas.{data-read, data-refused, read-invalid, read-none, read-whole}
use Rattle.trees.proofs.reading.read_short.Goals as goal

pub returns-in_default : goal.returns-in_default
returns-in_default c = data-refused c.args.depth c.args.bytes.now (λ text. absurd (c.in_default.ensures text))

pub returns-in-Err-Invalid : goal.returns-in-Err-Invalid
returns-in-Err-Invalid c =
    data-refused c.args.depth c.args.bytes.now (λ text. sym (ap (read_within c.args.depth) c.in-Ok.ensures.0)
    ∙ read-invalid c.args.depth c.in-Ok.text.now c.requires
    (c.in-Err-Invalid.ensures.invalid (ap Err c.in-Err-Invalid.field-0-is)))

pub returns-then-not-are_read : goal.returns-then-not-are_read
returns-then-not-are_read c =
    let text = c.in-Ok.text.now in
    let same : map node_token c.nodes.result.now ≡ tokens text = c.nodes.ensures.tokens ∙ c.in-Ok-parse.ensures.ok.0 in
    let told = c.are_read.ensures text same c.in-Ok-parse.ensures.ok.1 in
    data-refused c.args.depth c.args.bytes.now (λ utf8. sym (ap (read_within c.args.depth) c.in-Ok.ensures.0)
    ∙ read-none (read_within c.args.depth text) (sym told ∙ c.if-not-are_read.true))

pub returns : goal.returns
returns c =
    let text = c.in-Ok.text.now in
    let same : c.in-Ok-parse.tape ≡ tokens text = c.in-Ok-parse.ensures.ok.0 in
    let told = c.are_read.ensures text (c.nodes.ensures.tokens ∙ same) c.in-Ok-parse.ensures.ok.1 in
    data-read c.args.depth c.args.bytes.now (tokens_view c.in-Ok-parse.tape) c.in-Ok.ensures.1
    (sym (ap (read_within c.args.depth) c.in-Ok.ensures.0)
    ∙ read-whole c.args.depth text c.in-Ok-parse.ensures.ok.1 (sym told ∙ c.if-not-are_read.false)
    ∙ ap (λ ts. Some (tokens_view ts)) (sym same))
