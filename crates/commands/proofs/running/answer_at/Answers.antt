use Rattle.std.proofs.Common.{inl, inr, option_copied, sym}
use Rattle.std.proofs.lemmas.Result.{err_from_is_err_and}
use Rattle.words.specs.Views.{text_if}
use Rattle.commands.proofs.SameBytes.{source_with}
use Rattle.commands.proofs.running.answer_at.Goals as goal

pub returns-clause-answer : goal.returns-clause-answer
returns-clause-answer g c = record {
  bytes = c.in_ok-bytes.bytes;
  manifest_read = c.in_ok-bytes.ensures;
  old = c.in_ok-old.old;
  lock_read = c.in_ok-old.ensures;
  given = option_copied c.slice_if-given.result;
  given_is = c.slice_if-given.ensures;
  from = c.in_ok-from.from;
  source_is = source_with
      (text_if c.args.source) c.in_ok-from.from c.in_ok-text.text.now c.in_ok-from.ensures c.in_ok-text.ensures.source;
  prefer = c.preference-prefer.result;
  prefer_is = c.preference-prefer.ensures;
  folder = c.in_ok-folder.folder;
  opened = c.in_ok-folder.ensures;
  after = c.resolve_keeping.new.folder;
  resolves = rw (sym c.as_slice.ensures.value) c.in_ok-answer.ensures.answered;
}

pub returns-in_err-old-clause-lacks : goal.returns-in_err-old-clause-lacks
returns-in_err-old-clause-lacks g c =
    let p = err_from_is_err_and c.from_residual-in_err-old.result c.from_residual-in_err-old.ensures.1 in
    rw (p.1, p.2) (inr (inl (
      (
        (c.in_ok-text.text.now, c.in_ok-text.ensures.source),
        (c.in_ok-bytes.bytes, c.in_ok-bytes.ensures),
      ),
      c.in_err-old.ensures,
    )))

pub returns-in_err-from-clause-lacks : goal.returns-in_err-from-clause-lacks
returns-in_err-from-clause-lacks g c =
    let p = err_from_is_err_and c.from_residual-in_err-from.result c.from_residual-in_err-from.ensures.1 in
    rw p.1 (inr (inr (inl (
      (
        (c.in_ok-text.text.now, c.in_ok-text.ensures.source),
        (c.in_ok-bytes.bytes, c.in_ok-bytes.ensures),
      ),
      (c.in_ok-old.old, c.in_ok-old.ensures),
      p.2,
    ))))

pub returns-in_err-folder-clause-lacks : goal.returns-in_err-folder-clause-lacks
returns-in_err-folder-clause-lacks g c =
    let p = err_from_is_err_and c.from_residual-in_err-folder.result c.from_residual-in_err-folder.ensures.1 in
    rw p.1 (inr (inr (inl (
      (
        (c.in_ok-text.text.now, c.in_ok-text.ensures.source),
        (c.in_ok-bytes.bytes, c.in_ok-bytes.ensures),
      ),
      (c.in_ok-old.old, c.in_ok-old.ensures),
      p.2,
    ))))

pub returns-in_err-answer-clause-lacks : goal.returns-in_err-answer-clause-lacks
returns-in_err-answer-clause-lacks g c =
    let p = err_from_is_err_and c.from_residual-in_err-answer.result c.from_residual-in_err-answer.ensures.1 in
    rw p.1 (inr (inr (inr (
      c.in_err-answer.field-0.0,
      record {
        bytes = c.in_ok-bytes.bytes;
        manifest_read = c.in_ok-bytes.ensures;
        old = c.in_ok-old.old;
        lock_read = c.in_ok-old.ensures;
        given = option_copied c.slice_if-given.result;
        given_is = c.slice_if-given.ensures;
        from = c.in_ok-from.from;
        source_is = source_with (text_if c.args.source) c.in_ok-from.from c.in_ok-text.text.now c.in_ok-from.ensures
            c.in_ok-text.ensures.source;
        prefer = c.preference-prefer.result;
        prefer_is = c.preference-prefer.ensures;
        folder = c.in_ok-folder.folder;
        opened = c.in_ok-folder.ensures;
        after = c.resolve_keeping.new.folder;
        resolves = rw (sym c.as_slice.ensures.value) c.in_err-answer.ensures;
      },
      p.2,
    ))))
