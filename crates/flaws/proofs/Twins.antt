-- The package before that has the name and class of one, where neither is the root.
use Rattle.std.proofs.Common.{◌≡◌, ◌<◌, ◌≤◌, ℕ, true, Some, slice_get, ◌∙◌}
use Rattle.model.specs.Summary.{same_text}
use Rattle.model.specs.Content.{Package, Content, Problem}
use Rattle.model.specs.Selection.{class_of}
use Rattle.model.specs.Vertices.{same_class}
use Rattle.model.specs.Order.{IsContent}
use Rattle.model.proofs.Same.{both, text-same, class-same}
use Rattle.selection.specs.inner.Graphs.{IsOnlyRoot}
use Rattle.selection.specs.inner.Names.{is_like}
use Rattle.selection.proofs.Seconds.{is_other}
use Rattle.flaws.specs.inner.Flaws.{IsTwin}

pub twin_is : (content : Content) → IsContent content → (q : Problem) (root : ℕ) → IsOnlyRoot q content root
    → (n b : ℕ) (p s : Package)
    → slice_get content n ≡ Some p → slice_get content b ≡ Some s → (n ≡ root → ⊥) → b < n → (b ≡ root → ⊥)
    → is_like s p ≡ true → IsTwin q content n b
twin_is content formed q root only n b p s gn gb here lt there like =
    let same = both (same_text s.name p.name) (same_class (class_of s.version) (class_of p.version)) like in
    record {
      package_there = p;
      earlier = s;
      is_before = lt;
      is_other = (gn, is_other content formed q root only n p gn here);
      is_other_too = (gb, is_other content formed q root only b s gb there);
      name_is = text-same s.name p.name same.0;
      class_is = class-same (class_of s.version) (class_of p.version) same.1;
    }
