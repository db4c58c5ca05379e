-- Members whose keys rise stay as they are listed when they are put one after another.
use Rattle.std.proofs.Common.{◌≡◌, ℕ, List, [], ◌∷◌, Bool, true, false, ◌&&◌, Ordering, Less, Equal, Greater}
use Rattle.std.proofs.Common.{map, Bor, refl, sym, ap, ◌∙◌}
use Rattle.std.specs.Ordering.{nat_cmp, ordering_reverse, is_lt}
use Rattle.std.specs.Cmp.Lexicographic.{slice_cmp, nat_list_cmp_total}
use Rattle.serde_json.specs.Data.{Data, Members, no_members, member, put}
use Rattle.trees.specs.inner.Parts.{keys_rise, members_put, members_in_order}
use Rattle.trees.specs.Trees.{put_all, entries_view, listed_view, rise_after, tree_view}
use Rattle.trees.specs.declared.tree.Tree.{Tree}

-- the keys of all these come before this one
abbrev Below : Members → List ℕ → Type 0
Below no_members k = Unit {0}
Below (member l d ms) k = (slice_cmp nat_cmp l k ≡ Less) × Below ms k

abbrev behind : Members → Members → Members
behind no_members rest = rest
behind (member l d ms) rest = member l d (behind ms rest)

behind-none : (ms : Members) → behind ms no_members ≡ ms
behind-none no_members = refl
behind-none (member l d ms) = ap (member l d) (behind-none ms)

behind-one : (ms : Members) (k : List ℕ) (d : Data) (rest : Members)
    → behind (behind ms (member k d no_members)) rest ≡ behind ms (member k d rest)
behind-one no_members k d rest = refl
behind-one (member l e ms) k d rest = ap (member l e) (behind-one ms k d rest)

below-next : (ms : Members) (k l : List ℕ) (d : Data) → Below ms k → slice_cmp nat_cmp k l ≡ Less
    → Below (behind ms (member k d no_members)) l
below-next no_members k l d below less = (less, tt)
below-next (member m e ms) k l d below less =
    (nat_list_cmp_total.trans m k l below.0 less, below-next ms k l d below.1 less)

put-last : (ms : Members) (k : List ℕ) (d : Data) → Below ms k → put k d ms ≡ behind ms (member k d no_members)
put-last no_members k d below = refl
put-last (member l e ms) k d below =
    let greater : slice_cmp nat_cmp k l ≡ Greater = nat_list_cmp_total.antisymm k l ∙ ap ordering_reverse below.0 in
    rw greater (ap (member l e) (put-last ms k d below.1))

is_less : (o : Ordering) → is_lt o ≡ true → o ≡ Less
is_less Less e = refl
is_less Equal e = cc
is_less Greater e = cc

both : (a b : Bool) → (a && b) ≡ true → (a ≡ true) × (b ≡ true)
both true b e = (refl, e)
both false b e = cc

put-in_order : (found : Members) (k : List ℕ) (ms : List (List ℕ × Data))
    → ((l : List ℕ) → slice_cmp nat_cmp k l ≡ Less → Below found l) → keys_rise k ms ≡ true
    → members_put ms found ≡ behind found (members_in_order ms)
put-in_order found k [] below rise = sym (behind-none found)
put-in_order found k (m ∷ ms) below rise =
    let rises = both (is_lt (slice_cmp nat_cmp k m.0)) (keys_rise m.0 ms) rise in
    let here = below m.0 (is_less (slice_cmp nat_cmp k m.0) rises.0) in
    ap (members_put ms) (put-last found m.0 m.1 here)
    ∙ put-in_order (behind found (member m.0 m.1 no_members)) m.0 ms
    (λ l less. below-next found m.0 l m.1 here less) rises.1
    ∙ behind-one found m.0 m.1 (members_in_order ms)

pub members-stay : (ms : List (List ℕ × Data)) → keys_rise [] ms ≡ true
    → members_put ms no_members ≡ members_in_order ms
members-stay ms rise = put-in_order no_members [] ms (λ l less. tt) rise

-- ---- the same of members whose values are trees

abbrev Member : Type 0
Member = Bor (List ℕ) × Tree

abbrev values : List Member → List (List ℕ × Data)
values ms = map (λ m. (m.0.now, tree_view m.1)) ms

put-values : (ms : List Member) (found : Members) → put_all ms found ≡ members_put (values ms) found
put-values [] found = refl
put-values (m ∷ ms) found = put-values ms (put m.0.now (tree_view m.1) found)

listed-values : (ms : List Member) → members_in_order (values ms) ≡ listed_view ms
listed-values [] = refl
listed-values (m ∷ ms) = ap (member m.0.now (tree_view m.1)) (listed-values ms)

rise-values : (k : List ℕ) (ms : List Member) → keys_rise k (values ms) ≡ rise_after k ms
rise-values k [] = refl
rise-values k (m ∷ ms) = ap (λ b. is_lt (slice_cmp nat_cmp k m.0.now) && b) (rise-values m.0.now ms)

pub entries-listed : (ms : List Member) → rise_after [] ms ≡ true → entries_view ms ≡ listed_view ms
entries-listed ms rise =
    put-values ms no_members ∙ members-stay (values ms) (rise-values [] ms ∙ rise) ∙ listed-values ms
