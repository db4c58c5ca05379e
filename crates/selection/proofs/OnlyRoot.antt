-- No two packages of a lock are its root.
use Rattle.std.proofs.Common.{◌≡◌, ℕ, true, not, ◌&&◌, List, Option, Some, None, is_some, slice_get, refl, sym, ap, ◌∙◌}
use Rattle.std.proofs.Common.{true≢false}
use Rattle.model.specs.Summary.{same_text}
use Rattle.model.specs.Content.{Package, Content, Problem, is_root, same_version}
use Rattle.model.specs.Order.{IsContent}
use Rattle.model.proofs.Contents.{no_two_alike}
use Rattle.model.proofs.Same.{both, text-same, version-same}
use Rattle.selection.specs.inner.Graphs.{IsOnlyRoot}

-- what makes a package the root
record IsAsRoot (q : Problem) (p : Package) : Type 0 where
  name : q.name ≡ p.name
  version : q.version ≡ p.version
  source : p.source ≡ None

as_root : (q : Problem) (p : Package) → is_root q p ≡ true → IsAsRoot q p
as_root q p h =
    let a = both (not (is_some p.source) && same_text q.name p.name) (same_version q.version p.version) h in
    let b = both (not (is_some p.source)) (same_text q.name p.name) a.0 in
    record {
      name = text-same q.name p.name b.1;
      version =
          version-same q.version p.version a.1;
      source = by p.source b.0;
    }
  where
    by : (o : Option (List ℕ)) → not (is_some o) ≡ true → o ≡ None
    by None e = refl
    by (Some s) e = absurd (true≢false (sym e))

pub only_root : (q : Problem) (content : Content) (n : ℕ) (p : Package) → IsContent content
    → slice_get content n ≡ Some p → is_root q p ≡ true → IsOnlyRoot q content n
only_root q content n p formed got is m = (
  λ h. (let r = as_root q h.0 h.2 in let s = as_root q p is in no_two_alike content formed m n h.0 p h.1 got
      (sym r.name ∙ s.name) (sym r.version ∙ s.version) (r.source ∙ sym s.source)),
  λ e. (p, ap (slice_get content) e ∙ got, is),
)
