-- Two causes are equal exactly where they stand for one.
use Rattle.std.proofs.Common.{◌≡◌, ◌≢◌, ◌⊎◌, ◌↔◌, List, [], ◌∷◌, ◌++◌, Bool, true, false, cond, ◌&&◌, ◌||◌, Contains}
use Rattle.std.proofs.Common.{nat_eq, refl, sym, ap, ap₂, ◌∙◌, subst, inl, inr, true≢false}
use Rattle.std.specs.List.{list_any, flat_map, AllPairs}
use Rattle.std.proofs.lemmas.List.{append_assoc}
use Rattle.indexmap.specs.IndexSet.{insert_key}
use Rattle.model.specs.Summary.{same_text}
use Rattle.model.proofs.Lists.{in_first, in_rest, any_of, to_any}
use Rattle.model.specs.Causes as model
use Rattle.model.specs.Causes.{same_entry}
use Rattle.model.specs.inner.Listed.{same_cause}
use Rattle.std.proofs.lemmas.List.Elements.{Contains-append_right, Contains-append_left, Contains-push_cases}
use Rattle.model.proofs.Listing.{cause-same, cause-refl}
use Rattle.numbering.specs.GivenViews.{cause_views}
use Rattle.lookups.specs.inner.CauseViews.{cause_view}
use Rattle.numbering.specs.inner.CausesAt.{with_cause, with_causes}
use Rattle.lookups.specs.declared.cause.Cause.{Cause}
use Rattle.lookups.specs.declared.cause.Cause.TheVariants as cause
use Rattle.features.specs.declared.entry.Entry.{Entry}
use Rattle.features.specs.declared.entry.Entry.TheVariants as entry
use Rattle.lookups.specs.contracts.cause.CausePartialEq.TheImpl as cause_eq
use Rattle.features.specs.EntryViews.{entry_view}
use Rattle.features.specs.contracts.entry.EntryPartialEq.TheImpl as entry_eq
use Rattle.classes.proofs.SameClass.{class_same}
use Rattle.numbering.proofs.Same.{owner_same, version_same}
use Rattle.numbering.proofs.Needing.{apart_last}

entry_same : (a b : Entry) → (entry_eq.eq-value).it a b ≡ same_entry (entry_view a) (entry_view b)
entry_same (entry.Feature d) (entry.Feature e) = refl
entry_same (entry.Dependency d) (entry.Dependency e) = refl
entry_same (entry.DependencyFeature d f) (entry.DependencyFeature e g) = refl
entry_same (entry.WeakFeature d f) (entry.WeakFeature e g) = refl
entry_same a b = refl

cause_same : (a b : Cause) → (cause_eq.eq-value).it a b ≡ same_cause (cause_view a) (cause_view b)
cause_same cause.Root cause.Root = refl
cause_same (cause.Need o i) (cause.Need o2 i2) = ap (λ a. a && (nat_eq i i2)) (owner_same o o2)
cause_same (cause.Target o i k) (cause.Target o2 i2 k2) =
    ap₂ (λ a b. a && (nat_eq i i2 && b)) (owner_same o o2) (class_same k k2)
cause_same (cause.Feature n k f) (cause.Feature n2 k2 f2) =
    ap (λ a. same_text n.now n2.now && (a && (same_text f.now f2.now))) (class_same k k2)
cause_same (cause.List o i k g) (cause.List o2 i2 k2 g2) =
    ap₂ (λ a b. a && (nat_eq i i2 && (b && (same_text g.now g2.now)))) (owner_same o o2) (class_same k k2)
cause_same (cause.Ask n v i g k) (cause.Ask n2 v2 i2 g2 k2) = ap₂ (λ a b. same_text n.now n2.now
    && (a && (nat_eq i i2 && (same_text g.now g2.now && b)))) (version_same v.now v2.now) (class_same k k2)
cause_same (cause.Entry n v f g) (cause.Entry n2 v2 f2 g2) = ap (λ a. same_text n.now n2.now
    && (a && (same_text f.now f2.now && (same_text g.now g2.now)))) (version_same v.now v2.now)
cause_same (cause.Enabling n v f e i) (cause.Enabling n2 v2 f2 e2 i2) = ap₂ (λ a b. same_text n.now n2.now
    && (a && (same_text f.now f2.now && (b && (nat_eq i i2))))) (version_same v.now v2.now) (entry_same e.now e2.now)
cause_same (cause.Asking n v f g i) (cause.Asking n2 v2 f2 g2 i2) = ap (λ a. same_text n.now n2.now
    && (a && (same_text f.now f2.now && (same_text g.now g2.now && (nat_eq i i2))))) (version_same v.now v2.now)
cause_same (cause.Newest o i j k m) (cause.Newest o2 i2 j2 k2 m2) =
    ap₂ (λ a t. a && (nat_eq i i2 && (nat_eq j j2 && t))) (owner_same o o2)
    (ap₂ (λ b c. b && c) (class_same k k2) (class_same m m2))
cause_same (cause.Weak n v f g i k) (cause.Weak n2 v2 f2 g2 i2 k2) = ap₂
    (λ a b. same_text n.now n2.now && (a && (same_text f.now f2.now && (same_text g.now g2.now && (nat_eq i i2 && b)))))
    (version_same v.now v2.now) (class_same k k2)
cause_same a b = refl

-- ---- causes that are kept, and what they stand for

any_kept : (c : Cause) (ks : List Cause)
    → list_any ((cause_eq.eq-value).it c) ks ≡ list_any (same_cause (cause_view c)) (cause_views ks)
any_kept c [] = refl
any_kept c (k ∷ ks) = ap₂ (λ a b. a || b) (cause_same c k) (any_kept c ks)

view_last : (ks : List Cause) (c : Cause) → cause_views (ks ++ c ∷ []) ≡ cause_views ks ++ cause_view c ∷ []
view_last [] c = refl
view_last (k ∷ ks) c = ap (λ l. cause_view k ∷ l) (view_last ks c)

-- what is kept once one more is put
pub cause_put : (c : Cause) (ks : List Cause)
    → cause_views (insert_key (cause_eq.eq-value).it ks c) ≡ with_cause (cause_views ks) (cause_view c)
cause_put c ks = step (list_any ((cause_eq.eq-value).it c) ks)
    ∙ ap (λ b. cond b (cause_views ks) (cause_views ks ++ cause_view c ∷ [])) (any_kept c ks)
  where
    step : (b : Bool)
        → cause_views (cond b ks (ks ++ c ∷ [])) ≡ cond b (cause_views ks) (cause_views ks ++ cause_view c ∷ [])
    step true = refl
    step false = view_last ks c

-- ---- each once

not_in : (cs : List model.Cause) (c : model.Cause) → list_any (same_cause c) cs ≡ false
    → (x : model.Cause) → Contains cs x → x ≢ c
not_in cs c e x i same =
    true≢false (sym (to_any (same_cause c) cs x i (subst (λ y. same_cause c y ≡ true) (sym same) (cause-refl c))) ∙ e)

one_once : (cs : List model.Cause) (c : model.Cause) → AllPairs (λ a b. a ≢ b) cs
    → AllPairs (λ a b. a ≢ b) (with_cause cs c)
one_once cs c h = by (list_any (same_cause c) cs) refl
  where
    by : (b : Bool) → list_any (same_cause c) cs ≡ b → AllPairs (λ a b. a ≢ b) (cond b cs (cs ++ c ∷ []))
    by true e = h
    by false e = apart_last cs c h (not_in cs c e)

pub all_once : (cs xs : List model.Cause) → AllPairs (λ a b. a ≢ b) cs → AllPairs (λ a b. a ≢ b) (with_causes cs xs)
all_once cs [] h = h
all_once cs (x ∷ xs) h = all_once (with_cause cs x) xs (one_once cs x h)

in_one : (cs : List model.Cause) (x c : model.Cause) → Contains (with_cause cs x) c → Contains cs c ⊎ (x ≡ c)
in_one cs x c = by (list_any (same_cause x) cs)
  where
    by : (b : Bool) → Contains (cond b cs (cs ++ x ∷ [])) c → Contains cs c ⊎ (x ≡ c)
    by true h = inl h
    by false h = Contains-push_cases cs x c h

to_one : (cs : List model.Cause) (x c : model.Cause) → Contains cs c ⊎ (x ≡ c) → Contains (with_cause cs x) c
to_one cs x c h = by (list_any (same_cause x) cs) refl h
  where
    by : (b : Bool) → list_any (same_cause x) cs ≡ b → Contains cs c ⊎ (x ≡ c) → Contains (cond b cs (cs ++ x ∷ [])) c
    by true e (inl i) = i
    by true e (inr s) = let r = any_of (same_cause x) cs e in subst (Contains cs) (sym (cause-same x r.0 r.2) ∙ s) r.1
    by false e (inl i) = Contains-append_left cs (x ∷ []) c i
    by false e (inr s) = Contains-append_right cs (x ∷ []) c (subst (Contains (x ∷ [])) s (in_first x []))

from_all_causes : (cs xs : List model.Cause) (c : model.Cause) → Contains (with_causes cs xs) c
    → Contains cs c ⊎ Contains xs c
from_all_causes cs [] c h = inl h
from_all_causes cs (x ∷ xs) c h = elim (from_all_causes (with_cause cs x) xs c h) [
  | inl a ↦ elim (in_one cs x c a) [ inl i ↦ inl i | inr s ↦ inr (subst (Contains (x ∷ xs)) s (in_first x xs)) ]
  | inr b ↦ inr (in_rest x c xs b)
]

kept_causes : (cs xs : List model.Cause) (c : model.Cause) → Contains cs c → Contains (with_causes cs xs) c
kept_causes cs [] c h = h
kept_causes cs (x ∷ xs) c h = kept_causes (with_cause cs x) xs c (to_one cs x c (inl h))

to_causes : (cs xs : List model.Cause) (c : model.Cause) → Contains xs c → Contains (with_causes cs xs) c
to_causes cs [] c h = absurd (Rattle.model.proofs.Lists.in_none c h)
to_causes cs (x ∷ xs) c h = elim (Rattle.model.proofs.Lists.in_cons x c xs h) [
  | inl s ↦ kept_causes (with_cause cs x) xs c (to_one cs x c (inr s))
  | inr i ↦ to_causes (with_cause cs x) xs c i
]

-- the same causes, each once
pub same_ones : (xs : List model.Cause) (c : model.Cause) → Contains (with_causes [] xs) c ↔ Contains xs c
same_ones xs c = (
  λ h. elim (from_all_causes [] xs c h) [ inl a ↦ absurd (Rattle.model.proofs.Lists.in_none c a) | inr b ↦ b ],
  λ h. to_causes [] xs c h,
)

-- ---- one of a list after another

pub rest_more : {X : Type 0} (f : X → List model.Cause) (cs new all : List model.Cause) (x : X) (xs : List X)
    → cs ++ flat_map f (x ∷ xs) ≡ all → new ≡ cs ++ f x → new ++ flat_map f xs ≡ all
rest_more f cs new all x xs told step = ap (λ l. l ++ flat_map f xs) step ∙ append_assoc cs (f x) (flat_map f xs) ∙ told
