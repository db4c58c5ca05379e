use Rattle.std.proofs.Common.{inl, inr, sym}
use Rattle.std.proofs.lemmas.Result.{err_from_is_err_and}
use Rattle.words.specs.Views.{text_if}
use Rattle.commands.proofs.SameBytes.{source_with}
use Rattle.commands.proofs.running.verdict_at.Goals as goal

pub returns-clause-verdict : goal.returns-clause-verdict
returns-clause-verdict g c = record {
  bytes = c.in_ok-bytes.bytes;
  manifest_read = c.in_ok-bytes.ensures;
  locked = c.in_ok-locked.locked;
  lock_read = c.in_ok-locked.ensures;
  from = c.in_ok-from.from;
  source_is = source_with
      (text_if c.args.source) c.in_ok-from.from c.in_ok-text.text.now c.in_ok-from.ensures c.in_ok-text.ensures.source;
  folder = c.in_ok-folder.folder;
  opened = c.in_ok-folder.ensures;
  after = c.verify_bytes_keeping.new.folder;
  verifies = rw (sym c.as_slice.ensures.value, sym c.as_slice-2.ensures.value) c.in_ok-verdict.ensures.found;
}

pub returns-in_err-locked-clause-lacks : goal.returns-in_err-locked-clause-lacks
returns-in_err-locked-clause-lacks g c =
    let p = err_from_is_err_and c.from_residual-in_err-locked.result c.from_residual-in_err-locked.ensures.1 in
    rw (p.1, p.2) (inr (inl (
      (
        (c.in_ok-text.text.now, c.in_ok-text.ensures.source),
        (c.in_ok-bytes.bytes, c.in_ok-bytes.ensures),
      ),
      c.in_err-locked.ensures,
    )))

pub returns-in_err-from-clause-lacks : goal.returns-in_err-from-clause-lacks
returns-in_err-from-clause-lacks g c =
    let p = err_from_is_err_and c.from_residual-in_err-from.result c.from_residual-in_err-from.ensures.1 in
    rw p.1 (inr (inr (inl (
      (
        (c.in_ok-text.text.now, c.in_ok-text.ensures.source),
        (
          c.in_ok-bytes.bytes,
          c.in_ok-bytes.ensures,
        ),
      ),
      (c.in_ok-locked.locked, c.in_ok-locked.ensures),
      p.2,
    ))))

pub returns-in_err-folder-clause-lacks : goal.returns-in_err-folder-clause-lacks
returns-in_err-folder-clause-lacks g c =
    let p = err_from_is_err_and c.from_residual-in_err-folder.result c.from_residual-in_err-folder.ensures.1 in
    rw p.1 (inr (inr (inl (
      (
        (c.in_ok-text.text.now, c.in_ok-text.ensures.source),
        (
          c.in_ok-bytes.bytes,
          c.in_ok-bytes.ensures,
        ),
      ),
      (c.in_ok-locked.locked, c.in_ok-locked.ensures),
      p.2,
    ))))

pub returns-in_err-verdict-clause-lacks : goal.returns-in_err-verdict-clause-lacks
returns-in_err-verdict-clause-lacks g c =
    let p = err_from_is_err_and c.from_residual-in_err-verdict.result c.from_residual-in_err-verdict.ensures.1 in
    rw p.1 (inr (inr (inr (
      c.in_err-verdict.field-0.0,
      record {
        bytes = c.in_ok-bytes.bytes;
        manifest_read = c.in_ok-bytes.ensures;
        locked = c.in_ok-locked.locked;
        lock_read = c.in_ok-locked.ensures;
        from = c.in_ok-from.from;
        source_is = source_with (text_if c.args.source) c.in_ok-from.from c.in_ok-text.text.now c.in_ok-from.ensures
            c.in_ok-text.ensures.source;
        folder = c.in_ok-folder.folder;
        opened = c.in_ok-folder.ensures;
        after = c.verify_bytes_keeping.new.folder;
        verifies = rw (sym c.as_slice.ensures.value, sym c.as_slice-2.ensures.value) c.in_err-verdict.ensures;
      },
      p.2,
    ))))
