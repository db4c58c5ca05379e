-- What is known at the end of a search over the encoding.
use Rattle.std.proofs.Common.{◌≡◌, List, Option, map, length, ◌∙◌, subst, arith}
use Rattle.std.proofs.lemmas.List.{length-map}
use Rattle.incompatibilities.specs.Incompatibilities.{Assignment}
use Rattle.incompatibilities.specs.Stores.{EntryView}
use Rattle.propagation.specs.Trails.{TrailView}
use Rattle.propagation.specs.Promises.{IsTrail}
use Rattle.model.specs.Content.{Content, Problem}
use Rattle.numbering.specs.Numberings.{IsNumbering}
use Rattle.guiding.specs.inner.Searching.{HasSpaces, Pairs}
use Rattle.guiding.specs.inner.Turning.{HasEnded}
use Rattle.guiding.specs.inner.Following as following
use Rattle.guiding.specs.inner.Following.{IsLeft, IsSelection}
use Rattle.guiding.specs.declared.turns.Answer.{Answer}
use Rattle.guiding.specs.declared.turns.Answer.TheVariants.{Selection, Unsolvable}
use Rattle.guiding.specs.inner.Guides.{AreStored, EncodedView, Follows, GoesOn, HasBegun, HasFound, HasSearched, IsDone}
use Rattle.guiding.specs.inner.Guides.{IsOfInstance, asked_of, on_trail}
use Rattle.guiding.specs.inner.Remaining.{spaces_of}
use Rattle.guiding.proofs.Following.{followed_by}
use Rattle.guiding.proofs.Settling.{unbroken}

pub found_of : (q : Problem) (follows : Option Content) (old g : EncodedView) (t0 t : TrailView)
    (es0 es : List EntryView) (a : Answer) → HasBegun q follows old t0 es0 → GoesOn old g
    → IsNumbering g.problem g.vertices → map length g.asked ≡ spaces_of g.problem (on_trail g.vertices g.asked)
    → HasSpaces (map length g.asked) t → IsTrail es t → HasEnded (IsDone t) (asked_of g.asked) es t a
    → (following.AreGiven (IsOfInstance old.problem old.vertices) es0
    → following.AreGiven (IsOfInstance g.problem g.vertices) es)
    → (AreStored old.problem old.vertices old.asked es0 → AreStored g.problem g.vertices g.asked es)
    → HasFound q g t es a
found_of q follows old g t0 t es0 es Selection begun goes ok spaces spaced trail ended given stored =
    subst (λ p. HasFound p g t es Selection) (goes.problem ∙ begun.problem)
    (unbroken g.problem g.vertices g.asked es t ok spaces (goes.whole begun.whole) spaced trail ended.0 ended.1 ended.2
    (stored begun.stored) (given begun.given))
found_of q follows old g t0 t es0 es (Unsolvable id) begun goes ok spaces spaced trail ended given stored =
    subst (λ p. HasFound p g t es (Unsolvable id)) (goes.problem ∙ begun.problem) (ended, given begun.given)

done_of : (done : Type 0) (asked : Pairs) (es : List EntryView) (t : TrailView) (a : Answer)
    → HasEnded done asked es t a → IsSelection a → done
done_of done asked es t Selection ended is = ended.0
done_of done asked es t (Unsolvable id) ended is = absurd is

pub searched_of : (q : Problem) (follows : Option Content) (old g : EncodedView) (t0 t : TrailView)
    (es0 es : List EntryView) (a : Answer) → HasBegun q follows old t0 es0 → GoesOn old g
    → IsNumbering g.problem g.vertices → map length g.asked ≡ spaces_of g.problem (on_trail g.vertices g.asked)
    → HasSpaces (map length g.asked) t → IsTrail es t → HasEnded (IsDone t) (asked_of g.asked) es t a
    → (following.AreGiven (IsOfInstance old.problem old.vertices) es0
    → following.AreGiven (IsOfInstance g.problem g.vertices) es)
    → (AreStored old.problem old.vertices old.asked es0 → AreStored g.problem g.vertices g.asked es)
    → ((x : Assignment) → Follows g x → Follows old x × (IsLeft x es0 t0 → IsLeft x es t))
    → ((x : Assignment) → Follows g x → IsLeft x es0 t0 → IsSelection a)
    → HasSearched q g t es a
searched_of q follows old g t0 t es0 es a begun goes ok spaces spaced trail ended given stored keeps selects =
    record {
      numbering = subst (λ p. IsNumbering p g.vertices) (goes.problem ∙ begun.problem) ok;
      whole = omega (arith, goes.whole begun.whole, spaced.vertices, length-map g.asked length);
      trail = trail;
      found = found_of q follows old g t0 t es0 es a begun goes ok spaces spaced trail ended given stored;
      done = done_of (IsDone t) (asked_of g.asked) es t a ended;
      followed = followed_by q follows old g t0 t es0 es a begun goes keeps selects;
    }
