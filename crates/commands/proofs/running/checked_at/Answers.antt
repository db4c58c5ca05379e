use Rattle.std.proofs.Common.{Err, inl, inr, option_copied, sym}
use Rattle.std.proofs.lemmas.Result.{err_from_is_err_and}
use Rattle.words.specs.Views.{text_if}
use Rattle.commands.proofs.SameBytes.{checked_with, source_with}
use Rattle.commands.proofs.running.checked_at.Goals as goal

pub returns-clause-check : goal.returns-clause-check
returns-clause-check g c = record {
  bytes = c.in_ok-bytes.bytes;
  manifest_read = c.in_ok-bytes.ensures;
  old = c.in_ok-old.old;
  lock_read = c.in_ok-old.ensures;
  given = option_copied c.slice_if-given.result;
  given_is = c.slice_if-given.ensures;
  derivation = c.in_ok-derivation.derivation;
  proof_read = c.in_ok-derivation.ensures;
  from = c.in_ok-from.from;
  source_is = source_with
      (text_if c.args.source) c.in_ok-from.from c.in_ok-text.text.now c.in_ok-from.ensures c.in_ok-text.ensures.source;
  folder = c.in_ok-folder.folder;
  opened = c.in_ok-folder.ensures;
  after = c.check_bytes.new.folder;
  checks = rw (sym c.as_slice.ensures.value, sym c.as_slice-2.ensures.value) c.in_ok-checked.ensures;
}

pub returns-in_err-old-clause-lacks : goal.returns-in_err-old-clause-lacks
returns-in_err-old-clause-lacks g c =
    let p = err_from_is_err_and c.from_residual-in_err-old.result c.from_residual-in_err-old.ensures.1 in
    rw (p.1, p.2) (inr (inl (
      (
        (c.in_ok-text.text.now, c.in_ok-text.ensures.source),
        (c.in_ok-bytes.bytes, c.in_ok-bytes.ensures),
      ),
      c.in_err-old.ensures,
    )))

pub returns-in_err-derivation-clause-lacks : goal.returns-in_err-derivation-clause-lacks
returns-in_err-derivation-clause-lacks g c =
    let p = err_from_is_err_and c.from_residual-in_err-derivation.result c.from_residual-in_err-derivation.ensures.1 in
    rw (p.1, p.2) (inr (inr (inl (
      (
        (c.in_ok-text.text.now, c.in_ok-text.ensures.source),
        (
          c.in_ok-bytes.bytes,
          c.in_ok-bytes.ensures,
        ),
      ),
      (c.in_ok-old.old, c.in_ok-old.ensures),
      c.in_err-derivation.ensures,
    ))))

pub returns-in_err-from-clause-lacks : goal.returns-in_err-from-clause-lacks
returns-in_err-from-clause-lacks g c =
    let p = err_from_is_err_and c.from_residual-in_err-from.result c.from_residual-in_err-from.ensures.1 in
    rw p.1 (inr (inr (inr (inl (
      (
        (c.in_ok-text.text.now, c.in_ok-text.ensures.source),
        (c.in_ok-bytes.bytes, c.in_ok-bytes.ensures),
      ),
      (c.in_ok-old.old, c.in_ok-old.ensures),
      (c.in_ok-derivation.derivation, c.in_ok-derivation.ensures),
      p.2,
    )))))

pub returns-in_err-folder-clause-lacks : goal.returns-in_err-folder-clause-lacks
returns-in_err-folder-clause-lacks g c =
    let p = err_from_is_err_and c.from_residual-in_err-folder.result c.from_residual-in_err-folder.ensures.1 in
    rw p.1 (inr (inr (inr (inl (
      (
        (c.in_ok-text.text.now, c.in_ok-text.ensures.source),
        (c.in_ok-bytes.bytes, c.in_ok-bytes.ensures),
      ),
      (c.in_ok-old.old, c.in_ok-old.ensures),
      (c.in_ok-derivation.derivation, c.in_ok-derivation.ensures),
      p.2,
    )))))

pub returns-in_err-checked-clause-lacks : goal.returns-in_err-checked-clause-lacks
returns-in_err-checked-clause-lacks g c =
    let p = err_from_is_err_and c.from_residual-in_err-checked.result c.from_residual-in_err-checked.ensures.1 in
    rw p.1 (inr (inr (inr (inr (
      c.in_err-checked.field-0.0,
      record {
        bytes = c.in_ok-bytes.bytes;
        manifest_read = c.in_ok-bytes.ensures;
        old = c.in_ok-old.old;
        lock_read = c.in_ok-old.ensures;
        given = option_copied c.slice_if-given.result;
        given_is = c.slice_if-given.ensures;
        derivation = c.in_ok-derivation.derivation;
        proof_read = c.in_ok-derivation.ensures;
        from = c.in_ok-from.from;
        source_is = source_with (text_if c.args.source) c.in_ok-from.from c.in_ok-text.text.now c.in_ok-from.ensures
            c.in_ok-text.ensures.source;
        folder = c.in_ok-folder.folder;
        opened = c.in_ok-folder.ensures;
        after = c.check_bytes.new.folder;
        checks =
            checked_with g.D.Index.Folder.calls g.D.Index.Folder.failed c.as_slice.result.now c.as_slice-2.result.now
            (option_copied c.slice_if-given.result) c.in_ok-from.from c.in_ok-bytes.bytes.items
            c.in_ok-derivation.derivation.items c.in_ok-folder.folder c.check_bytes.new.folder
            (Err c.in_err-checked.field-0.0)
            c.as_slice.ensures.value c.as_slice-2.ensures.value c.in_err-checked.ensures;
      },
      p.2,
    )))))
