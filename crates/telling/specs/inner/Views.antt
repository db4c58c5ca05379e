-- What the parts of an outline stand for.
use Rattle.std.specs.Prelude.{ℕ, List, map}
use Rattle.telling.specs.inner.Outlines.{Outline}
use Rattle.telling.specs.declared.outline.Premise.{Premise}
use Rattle.telling.specs.declared.outline.Sentence.{Sentence}
use Rattle.telling.specs.declared.outline.SoFar.{SoFar}

abbrev pub sentence_view : Sentence → ℕ × List Premise
sentence_view s = (s.step, s.premises.items)

abbrev pub sentence_views : List Sentence → List (ℕ × List Premise)
sentence_views ss = map sentence_view ss

abbrev pub so_far_view : SoFar → Outline
so_far_view s = record { told = sentence_views s.sentences.items; said = map (λ v. v.items) s.said.items }
