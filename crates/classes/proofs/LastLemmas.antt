-- The last of the groups so far.
use Rattle.std.proofs.Common.{◌≡◌, ℕ, ◌-◌, ◌<◌, zero, suc, List, [], ◌∷◌, ◌++◌, length, get_or, set, Some}
use Rattle.std.proofs.Common.{Vec, slice_get, sym, ap, ◌∙◌, arith}
use Rattle.std.specs.declared.alloc.Global.{Global}
use Rattle.std.proofs.lemmas.Option.{slice_get_within, get_or_from_slice_get}
use Rattle.model.specs.Selection as model
use Rattle.model.specs.Vertices.{same_class}
use Rattle.classes.specs.Classes.{class_view}
use Rattle.classes.specs.Groups.{ends_in, group_views, with_last}
use Rattle.classes.specs.declared.class.Class.{Class}

abbrev Held : Type 0
Held = Class × Vec ℕ Global

ends_in-at : (k : model.Class) (gs : List Held) (m : ℕ) (x : Held) → suc m ≡ length gs → x ≡ get_or gs m x
    → ends_in k (group_views gs) ≡ same_class k (class_view x.0)
ends_in-at k [] m x e h = absurd (omega arith)
ends_in-at k (g ∷ []) zero x e h = ap (λ (y : Held). same_class k (class_view y.0)) (sym h)
ends_in-at k (g ∷ []) (suc m) x e h = absurd (omega arith)
ends_in-at k (g ∷ h ∷ gs) zero x e last = absurd (omega arith)
ends_in-at k (g ∷ h ∷ gs) (suc m) x e last = ends_in-at k (h ∷ gs) m x (omega arith) last

pub ends_in-some : (k : model.Class) (gs : List Held) (x : Held) → slice_get gs (length gs - 1) ≡ Some x
    → ends_in k (group_views gs) ≡ same_class k (class_view x.0)
ends_in-some k gs x h =
    let within : length gs - 1 < length gs = slice_get_within gs (length gs - 1) x h in
    ends_in-at k gs (length gs - 1) x (omega arith) (sym (get_or_from_slice_get gs (length gs - 1) x x h))

last-set : (n : ℕ) (gs : List Held) (m : ℕ) (x : Held) (v : Vec ℕ Global) → suc m ≡ length gs → x ≡ get_or gs m x
    → v.items ≡ x.1.items ++ n ∷ []
    → group_views (set gs m (x.0, v)) ≡ with_last n (group_views gs)
last-set n [] m x v e h put = absurd (omega arith)
last-set n (g ∷ []) zero x v e h put =
    ap (λ is. (class_view x.0, is) ∷ []) put ∙ ap (λ (y : Held). (class_view y.0, y.1.items ++ n ∷ []) ∷ []) h
last-set n (g ∷ []) (suc m) x v e h put = absurd (omega arith)
last-set n (g ∷ h ∷ gs) zero x v e last put = absurd (omega arith)
last-set n (g ∷ h ∷ gs) (suc m) x v e last put =
    ap (λ l. (class_view g.0, g.1.items) ∷ l) (last-set n (h ∷ gs) m x v (omega arith) last put)

pub with_last-set : (n : ℕ) (gs : List Held) (m : ℕ) (x : Held) (v : Vec ℕ Global) → m ≡ length gs → 0 < m
    → x ≡ get_or gs (m - 1) x → v.items ≡ x.1.items ++ n ∷ []
    → group_views (set gs (m - 1) (x.0, v)) ≡ with_last n (group_views gs)
with_last-set n gs m x v counted some last put = last-set n gs (m - 1) x v (omega arith) last put
