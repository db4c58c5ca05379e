use Rattle.std.proofs.Common.{◌++◌, [], map, codes}
use Rattle.lockfile.specs.Spelling.{line, key_line, optional_line, dependency_lines}
use Rattle.lockfile.specs.inner.Written.{entry_view, listed_views}
use Rattle.lockfile.proofs.Writing.{six}
use Rattle.lockfile.proofs.writer.put_package.Goals as goal

pub returns : goal.returns
returns c =
    let written = entry_view c.args.entry.now in
    let name = rw c.as_str.ensures.text at c.in_ok-put_key.ensures in
    let version = rw c.deref.ensures at c.in_ok-put_key-2.ensures in
    let source = rw c.source.ensures at c.in_ok-put_optional.ensures in
    let checksum = rw c.checksum.ensures at c.in_ok-put_optional-2.ensures in
    six c.args.out.now.items (line [] ++ line (codes "[[package]]")) (key_line (codes "name") written.locked.name)
    (key_line (codes "version") written.version) (optional_line (codes "source") written.locked.source)
    (optional_line (codes "checksum") written.locked.checksum)
    (dependency_lines (map (λ w. w.text) (listed_views c.args.listed.now))) c.in_ok-extend_from_slice.ensures.items
    name version source checksum c.in_ok-put_list.ensures
