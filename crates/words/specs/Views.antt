-- Words without where they lie in memory.
use Rattle.std.specs.Prelude.{ℕ, List, Option, option_map}
use Rattle.std.specs.Borrow.{Bor}
use Rattle.words.specs.Asked.{WordsView, resolve, verify, check, explain}
use Rattle.words.specs.declared.reading.Words.{Words}
use Rattle.words.specs.declared.reading.Words.TheVariants.{Resolve, Verify, Check, Explain}

abbrev pub text_if : Option (Bor (List ℕ)) → Option (List ℕ)
text_if o = option_map (λ s. s.now) o

abbrev pub words_view : Words → WordsView
words_view (Resolve manifest index lock source proof rust_first) =
    resolve manifest.now index.now (text_if lock) (text_if source) (text_if proof) rust_first
words_view (Verify manifest index lock source) = verify manifest.now index.now lock.now (text_if source)
words_view (Check manifest index lock source proof) =
    check manifest.now index.now (text_if lock) (text_if source) proof.now
words_view (Explain proof) = explain proof.now
