-- What finite chains of reasons give from the root is a finite list, if it can be told where each dependency leads.
use Rattle.std.proofs.Common.{◌≡◌, ℕ, zero, suc, ◌<◌, ◌≤◌, List, [], ◌∷◌, ◌++◌, map, length, Bool, true, false, cond}
use Rattle.std.proofs.Common.{◌&&◌, ◌||◌, nat_eq, Contains, Option, Some, None, slice_get, refl, sym, ap, ap₂, ◌∙◌}
use Rattle.std.proofs.Common.{subst, inl, inr, ◌⊎◌, true≢false, arith}
use Rattle.std.specs.List.{list_any}
use Rattle.std.proofs.lemmas.Bool.{and_from, eqb-true, eq-eqb, cases_lt}
use Rattle.std.proofs.lemmas.List.Elements.{Contains-append_left, Contains-append_right}
use Rattle.std.proofs.lemmas.Option.{none-some, same_Some, slice_get_within}
use Rattle.model.specs.Summary.{Summary, Dependency, Entry, Table, feature, dependency, dependency_feature}
use Rattle.model.specs.Summary.{weak_feature, entries_at, asked_of_target, same_text}
use Rattle.model.specs.Selection.{Fact, here, on, enabled, Brings, Lists}
use Rattle.model.specs.Selection.Holds.{starts, arrives, root_needs, needs, asks, root_wants, turns_on, enables}
use Rattle.model.specs.Selection.Holds.{enables_for, wants, wants_weakly}
use Rattle.model.specs.Content.{Problem, Candidate, candidates_of}
use Rattle.model.specs.Vertices.{Owner, the_root, version_of, same_owner, owner_brings}
use Rattle.model.specs.Axioms.{IsOwner}
use Rattle.model.specs.Walk.{IsReachedFact}
use Rattle.model.proofs.Same.{both, text-same, text-refl, owner-same, owner-refl}
use Rattle.model.proofs.Lists.{in_none, in_cons, in_first, in_rest, to_map, to_any, any_of}

-- ---- facts are told apart

abbrev same_fact : Fact Owner → Fact Owner → Bool
same_fact (here n) (here m) = same_owner n m
same_fact (on n f) (on m g) = same_owner n m && same_text f g
same_fact (enabled n i) (enabled m j) = same_owner n m && nat_eq i j
same_fact _ _ = false

fact-same : (f g : Fact Owner) → same_fact f g ≡ true → f ≡ g
fact-same (here n) (here m) h = ap here (owner-same n m h)
fact-same (on n f) (on m g) h = let e =
    both (same_owner n m) (same_text f g) h in ap₂ on (owner-same n m e.0) (text-same f g e.1)
fact-same (enabled n i) (enabled m j) h = let e =
    both (same_owner n m) (nat_eq i j) h in ap₂ enabled (owner-same n m e.0) (eqb-true i j e.1)
fact-same f g h = absurd (true≢false (sym h))

fact-refl : (f : Fact Owner) → same_fact f f ≡ true
fact-refl (here n) = owner-refl n
fact-refl (on n f) = and_from (same_owner n n) (same_text f f) (owner-refl n) (text-refl f)
fact-refl (enabled n i) = and_from (same_owner n n) (nat_eq i i) (owner-refl n) (eq-eqb i i refl)

pub is_among : (fs : List (Fact Owner)) (f : Fact Owner) → Contains fs f ⊎ (Contains fs f → ⊥)
is_among fs f = by (list_any (same_fact f) fs) refl
  where
    by : (b : Bool) → list_any (same_fact f) fs ≡ b → Contains fs f ⊎ (Contains fs f → ⊥)
    by true e = let r = any_of (same_fact f) fs e in inl (subst (Contains fs) (sym (fact-same f r.0 r.2)) r.1)
    by false e = inr (λ c. true≢false (sym (to_any (same_fact f) fs f c (fact-refl f)) ∙ e))

-- ---- how many of a list are not in another

missing : List (Fact Owner) → List (Fact Owner) → ℕ
missing fs [] = 0
missing fs (u ∷ us) = cond (list_any (same_fact u) fs) (missing fs us) (suc (missing fs us))

no_more : (f : Fact Owner) (fs us : List (Fact Owner)) → missing (f ∷ fs) us ≤ missing fs us
unfolding missing
no_more f fs [] = omega arith
no_more f fs (u ∷ us) = by (same_fact u f) (list_any (same_fact u) fs) (no_more f fs us)
  where
    by : (a b : Bool) → missing (f ∷ fs) us ≤ missing fs us
        → cond (a || b) (missing (f ∷ fs) us) (suc (missing (f ∷ fs) us)) ≤ cond b (missing fs us) (suc (missing fs us))
    by true true h = h
    by true false h = omega arith
    by false true h = h
    by false false h = omega arith

one_less : (f : Fact Owner) (fs us : List (Fact Owner)) → (Contains fs f → ⊥) → Contains us f
    → missing (f ∷ fs) us < missing fs us
unfolding missing
one_less f fs [] new c = absurd (in_none f c)
one_less f fs (u ∷ us) new c = elim (in_cons u f us c) [
  | inl e ↦ this (list_any (same_fact u) fs) refl (subst (λ x. same_fact u x ≡ true) e (fact-refl u)) e
  | inr r ↦ later (same_fact u f) (list_any (same_fact u) fs) (one_less f fs us new r)
]
  where
    this : (b : Bool) → list_any (same_fact u) fs ≡ b → same_fact u f ≡ true → u ≡ f
        → cond (same_fact u f || b) (missing (f ∷ fs) us) (suc (missing (f ∷ fs) us)) < cond b
        (missing fs us) (suc (missing fs us))
    this true e h is =
        absurd (let r = any_of (same_fact u) fs e in new (subst (Contains fs) (sym (fact-same u r.0 r.2) ∙ is) r.1))
    this false e h is = let k = no_more f fs us in rw h (omega (arith, k))

    later : (a b : Bool) → missing (f ∷ fs) us < missing fs us
        → cond (a || b) (missing (f ∷ fs) us) (suc (missing (f ∷ fs) us)) < cond b (missing fs us) (suc (missing fs us))
    later true true h = h
    later true false h = omega arith
    later false true h = h
    later false false h = omega arith

-- ---- lists of lists

gather : {X Y : Type 0} → (X → List Y) → List X → List Y
gather f [] = []
gather f (x ∷ xs) = f x ++ gather f xs

in_gather : {X Y : Type 0} (f : X → List Y) (xs : List X) (x : X) (y : Y) → Contains xs x → Contains (f x) y
    → Contains (gather f xs) y
unfolding gather
in_gather f [] x y c d = absurd (in_none x c)
in_gather f (z ∷ xs) x y c d = elim (in_cons z x xs c) [
  | inl e ↦ Contains-append_left (f z) (gather f xs) y (subst (λ w. Contains (f w) y) (sym e) d)
  | inr r ↦ Contains-append_right (f z) (gather f xs) y (in_gather f xs x y r d)
]

-- ---- all facts that there can be

entry_names : Entry → List (List ℕ)
entry_names (feature g) = g ∷ []
entry_names (dependency d) = []
entry_names (dependency_feature d g) = g ∷ []
entry_names (weak_feature d g) = g ∷ []

row_names : List ℕ × List Entry → List (List ℕ)
row_names row = gather entry_names row.1

summary_names : Summary → List (List ℕ)
summary_names s = gather asked_of_target s.dependencies ++ gather row_names s.features

row_owners : List ℕ × List Candidate → List Owner
row_owners row = map (λ c. version_of row.0 c.version) row.1

row_there : (f : List ℕ) (table : Table) (es : List Entry) → entries_at f table ≡ Some es
    → (row : List ℕ × List Entry) × Contains table row × (row.1 ≡ es)
row_there f [] es h = absurd (none-some es h)
row_there f (row ∷ rows) es h = by (λ h. row_there f rows es h) (same_text f row.0) h
  where
    by : (entries_at f rows ≡ Some es → (r : List ℕ × List Entry) × Contains rows r × (r.1 ≡ es)) → (b : Bool)
        → cond b (Some row.1) (entries_at f rows) ≡ Some es
        → (r : List ℕ × List Entry) × Contains (row ∷ rows) r × (r.1 ≡ es)
    by rest true h = (row, in_first row rows, same_Some row.1 es h)
    by rest false h = let r = rest h in (r.0, in_rest row r.0 rows r.1, r.2)

candidate_there : (rows : List (List ℕ × List Candidate)) (name : List ℕ) (c : Candidate)
    → Contains (candidates_of rows name) c
    → Contains (gather row_owners rows) (version_of name c.version)
unfolding gather row_owners
candidate_there [] name c i = absurd (in_none c i)
candidate_there (row ∷ rows) name c i = by (λ i. candidate_there rows name c i) (same_text name row.0) refl i
  where
    by : (Contains (candidates_of rows name) c → Contains (gather row_owners rows) (version_of name c.version))
        → (b : Bool) → same_text name row.0 ≡ b
        → Contains (cond b row.1 (candidates_of rows name)) c
        → Contains (row_owners row ++ gather row_owners rows) (version_of name c.version)
    by rest true e i = Contains-append_left (row_owners row) (gather row_owners rows) (version_of name c.version)
        (subst (λ n. Contains (row_owners row) (version_of n c.version)) (sym (text-same name row.0 e))
        (to_map (λ (c : Candidate). version_of row.0 c.version) row.1 c i))
    by rest false e i =
        Contains-append_right (row_owners row) (gather row_owners rows) (version_of name c.version) (rest i)

numbers : Owner → ℕ → List (Fact Owner)
numbers o zero = []
numbers o (suc n) = enabled o n ∷ numbers o n

number_there : (o : Owner) (n i : ℕ) → i < n → Contains (numbers o n) (enabled o i)
unfolding numbers
number_there o zero i lt = absurd (omega arith)
number_there o (suc n) i lt = by (λ below. number_there o n i below) (nat_eq i n) refl
  where
    by : (i < n → Contains (numbers o n) (enabled o i)) → (b : Bool) → nat_eq i n ≡ b
        → Contains (enabled o n ∷ numbers o n) (enabled o i)
    by rest true e = subst (λ k. Contains (enabled o n ∷ numbers o n) (enabled o k)) (sym (eqb-true i n e))
        (in_first (enabled o n) (numbers o n))
    by rest false e = in_rest (enabled o n) (enabled o i) (numbers o n) (rest (below e))
      where
        below : nat_eq i n ≡ false → i < n
        below e = elim (cases_lt i n) [
          | inl b ↦ b
          | inr ge ↦ let same : i ≡ n =
              omega arith in absurd (true≢false (sym (eq-eqb i n same) ∙ e))
        ]

module _ (q : Problem) where
  pub owners : List Owner
  owners = the_root ∷ gather row_owners q.candidates

  pub owner_there : (o : Owner) → IsOwner q o → Contains owners o
  unfolding owners
  owner_there the_root h = in_first the_root (gather row_owners q.candidates)
  owner_there (version_of name v) (c, i, e) = in_rest the_root (version_of name v) (gather row_owners q.candidates)
      (subst (λ w. Contains (gather row_owners q.candidates) (version_of name w)) e
      (candidate_there q.candidates name c i))

  names : List (List ℕ)
  names = map (λ a. a.1) q.root_asks ++ gather (λ o. summary_names (owner_brings q o)) owners

  facts_at : Owner → List (Fact Owner)
  facts_at o = here o ∷ map (on o) names ++ numbers o (length (owner_brings q o).dependencies)

  universe : List (Fact Owner)
  universe = gather facts_at owners

  asked_root : (d : Dependency) (g : List ℕ) → Contains q.root_asks (d.name, g) → Contains names g
  unfolding names
  asked_root d g c =
      Contains-append_left (map (λ a. a.1) q.root_asks) (gather (λ o. summary_names (owner_brings q o)) owners) g
      (to_map (λ (a : List ℕ × List ℕ). a.1) q.root_asks (d.name, g) c)

  brought : (n : Owner) (g : List ℕ) → IsOwner q n → Contains (summary_names (owner_brings q n)) g → Contains names g
  unfolding names
  brought n g o c =
      Contains-append_right (map (λ a. a.1) q.root_asks) (gather (λ o. summary_names (owner_brings q o)) owners) g
      (in_gather (λ o. summary_names (owner_brings q o)) owners n g (owner_there n o) c)

  asked_dep : (n : Owner) (i : ℕ) (d : Dependency) (g : List ℕ) → IsOwner q n → Brings (owner_brings q) n i d
      → Contains (asked_of_target d) g → Contains names g
  unfolding summary_names
  asked_dep n i d g o b c = brought n g o
      (Contains-append_left (gather asked_of_target (owner_brings q n).dependencies)
      (gather row_names (owner_brings q n).features) g
      (in_gather asked_of_target (owner_brings q n).dependencies d g (there (owner_brings q n).dependencies i b) c))
    where
      there : (ds : List Dependency) (i : ℕ) → slice_get ds i ≡ Some d → Contains ds d
      there [] i e = absurd (none-some d e)
      there (x ∷ ds) zero e = subst (Contains (x ∷ ds)) (same_Some x d e) (in_first x ds)
      there (x ∷ ds) (suc i) e = in_rest x d ds (there ds i e)

  asked_entry : (n : Owner) (f g : List ℕ) (e : Entry) → IsOwner q n → Lists (owner_brings q) n f e
      → Contains (entry_names e) g → Contains names g
  unfolding summary_names row_names
  asked_entry n f g e o l c =
      let r = row_there f (owner_brings q n).features l.0 l.1 in
      brought n g o (Contains-append_right (gather asked_of_target (owner_brings q n).dependencies)
      (gather row_names (owner_brings q n).features) g
      (in_gather row_names (owner_brings q n).features r.0 g r.1
      (in_gather entry_names (r.0).1 e g (subst (λ es. Contains es e) (sym r.2) l.2) c)))

  module _ (LeadsTo : Owner → ℕ → Dependency → Owner → Type 0)
      (arriving : (n t : Owner) (i : ℕ) (d : Dependency) → LeadsTo n i d t → IsOwner q t) where
    abbrev pub Reached : Fact Owner → Type 0
    Reached = IsReachedFact q LeadsTo

    abbrev IsKnown : Fact Owner → Type 0
    IsKnown (here n) = IsOwner q n
    IsKnown (on n g) = IsOwner q n × Contains names g
    IsKnown (enabled n i) = IsOwner q n × (i < length (owner_brings q n).dependencies)

    numbered : (n : Owner) (i : ℕ) (d : Dependency) → Brings (owner_brings q) n i d
        → i < length (owner_brings q n).dependencies
    numbered n i d b = slice_get_within (owner_brings q n).dependencies i d b

    known : (f : Fact Owner) → Reached f → IsKnown f
    unfolding entry_names
    known f (starts n e) = subst (IsOwner q) (sym e) tt
    known f (arrives n t i d h b l) = arriving n t i d l
    known f (root_needs n i d h e b) = (known (here n) h, numbered n i d b)
    known f (needs n i d h b o) = (known (here n) h, numbered n i d b)
    known f (asks n t i d g h b l a) = (arriving n t i d l, asked_dep n i d g (known (enabled n i) h).0 b a)
    known f (root_wants n t i d g h e b l a) = (arriving n t i d l, asked_root d g a)
    known f (turns_on n g k h l) = let o =
        (known (on n g) h).0 in (o, asked_entry n g k (feature k) o l (in_first k []))
    known f (enables n i d g h b l) = ((known (on n g) h).0, numbered n i d b)
    known f (enables_for n i d g k h b l) = ((known (on n g) h).0, numbered n i d b)
    known f (wants n t i d g k h b l to) =
        (arriving n t i d to, asked_entry n g k (dependency_feature d.name k) (known (on n g) h).0 l (in_first k []))
    known f (wants_weakly n t i d g k h b l e to) =
        (arriving n t i d to, asked_entry n g k (weak_feature d.name k) (known (on n g) h).0 l (in_first k []))

    pub owner_of_fact : (n : Owner) → Reached (here n) → IsOwner q n
    owner_of_fact n h = known (here n) h

    within : (f : Fact Owner) → Reached f → Contains universe f
    unfolding universe facts_at
    within (here n) h = in_gather facts_at owners n (here n) (owner_there n (known (here n) h))
        (in_first (here n) (map (on n) names ++ numbers n (length (owner_brings q n).dependencies)))
    within (on n g) h = let k = known (on n g) h in in_gather facts_at owners n (on n g) (owner_there n k.0)
        (in_rest (here n) (on n g) (map (on n) names ++ numbers n (length (owner_brings q n).dependencies))
        (Contains-append_left (map (on n) names) (numbers n (length (owner_brings q n).dependencies)) (on n g)
        (to_map (on n) names g k.1)))
    within (enabled n i) h = let k =
        known (enabled n i) h in in_gather facts_at owners n (enabled n i) (owner_there n k.0)
        (in_rest (here n) (enabled n i) (map (on n) names ++ numbers n (length (owner_brings q n).dependencies))
        (Contains-append_right (map (on n) names) (numbers n (length (owner_brings q n).dependencies)) (enabled n i)
        (number_there n (length (owner_brings q n).dependencies) i k.1)))

    -- ---- one fact more, or all that the rules give is there

    -- where a dependency leads, if anywhere
    abbrev pub Leads : Owner → ℕ → Dependency → Type 0
    Leads n i d =
        ((t : Owner) × LeadsTo n i d t × ((u : Owner) → LeadsTo n i d u → t ≡ u)) ⊎ ((u : Owner) → LeadsTo n i d u → ⊥)

    module _ (lead : (n : Owner) (i : ℕ) (d : Dependency) → Leads n i d) where
      module _ (fs : List (Fact Owner)) (sound : (f : Fact Owner) → Contains fs f → Reached f) where
        abbrev Has : Fact Owner → Type 0
        Has f = Contains fs f

        abbrev New : Type 0
        New = (f : Fact Owner) × Reached f × (Has f → ⊥)

        or_new : (f : Fact Owner) → Reached f → New ⊎ Has f
        or_new f h = elim (is_among fs f) [ inl c ↦ inr c | inr n ↦ inl (f, h, n) ]

        two : {A B : Type 0} → New ⊎ A → New ⊎ B → New ⊎ (A × B)
        two (inl n) b = inl n
        two (inr a) (inl n) = inl n
        two (inr a) (inr b) = inr (a, b)

        then : {A B : Type 0} → New ⊎ A → (A → B) → New ⊎ B
        then (inl n) f = inl n
        then (inr a) f = inr (f a)

        each_of : {X : Type 0} (xs : List X) (B : X → Type 0) → ((x : X) → Contains xs x → New ⊎ B x)
            → New ⊎ ((x : X) → Contains xs x → B x)
        each_of [] B f = inr (λ x c. absurd (in_none x c))
        each_of {X} (y ∷ xs) B f = join (f y (in_first y xs)) (each_of xs B (λ x c. f x (in_rest y x xs c)))
          where
            join : New ⊎ B y → New ⊎ ((x : X) → Contains xs x → B x) → New ⊎ ((x : X) → Contains (y ∷ xs) x → B x)
            join (inl n) b = inl n
            join (inr a) (inl n) = inl n
            join (inr a) (inr b) = inr (λ x c. elim (in_cons y x xs c) [ inl e ↦ subst B e a | inr r ↦ b x r ])

        each_at : (ds : List Dependency) (B : ℕ → Dependency → Type 0)
            → ((i : ℕ) (d : Dependency) → slice_get ds i ≡ Some d → New ⊎ B i d)
            → New ⊎ ((i : ℕ) (d : Dependency) → slice_get ds i ≡ Some d → B i d)
        each_at [] B f = inr (λ i d e. absurd (none-some d e))
        each_at (x ∷ ds) B f = join (f 0 x refl) (each_at ds (λ i d. B (suc i) d) (λ i d e. f (suc i) d e))
          where
            join : New ⊎ B 0 x → New ⊎ ((i : ℕ) (d : Dependency) → slice_get ds i ≡ Some d → B (suc i) d)
                → New ⊎ ((i : ℕ) (d : Dependency) → slice_get (x ∷ ds) i ≡ Some d → B i d)
            join (inl n) b = inl n
            join (inr a) (inl n) = inl n
            join (inr a) (inr b) = inr (here_or a b)
              where
                here_or : B 0 x → ((i : ℕ) (d : Dependency) → slice_get ds i ≡ Some d → B (suc i) d)
                    → (i : ℕ) (d : Dependency) → slice_get (x ∷ ds) i ≡ Some d → B i d
                here_or a b zero d e = subst (B 0) (same_Some x d e) a
                here_or a b (suc i) d e = b i d e

        each_lead : (n : Owner) (i : ℕ) (d : Dependency) (B : Owner → Type 0)
            → ((t : Owner) → LeadsTo n i d t → New ⊎ B t) → New ⊎ ((t : Owner) → LeadsTo n i d t → B t)
        each_lead n i d B f = elim (lead n i d) [
          | inl r ↦ then (f r.0 r.1) (λ b t l. subst B (r.2 t l) b)
          | inr never ↦ inr (λ t l. absurd (never t l))
        ]

        if_called : (a b : List ℕ) (B : Type 0) → (a ≡ b → New ⊎ B) → New ⊎ (a ≡ b → B)
        if_called a b B f = by (same_text a b) refl
          where
            by : (t : Bool) → same_text a b ≡ t → New ⊎ (a ≡ b → B)
            by true e = then (f (text-same a b e)) (λ x _. x)
            by false e = inr (λ is. absurd (true≢false (sym (text-refl a) ∙ ap (same_text a) is ∙ e)))

        -- what a fact gives by the rules
        abbrev EntryGives : Owner → Entry → Type 0
        EntryGives n (feature g) = Has (on n g)
        EntryGives n (dependency x) =
            (i : ℕ) (d : Dependency) → Brings (owner_brings q) n i d → d.name ≡ x → Has (enabled n i)
        EntryGives n (dependency_feature x g) = (i : ℕ) (d : Dependency) → Brings (owner_brings q) n i d → d.name ≡ x
            → Has (enabled n i) × ((t : Owner) → LeadsTo n i d t → Has (on t g))
        EntryGives n (weak_feature x g) = (i : ℕ) (d : Dependency) → Brings (owner_brings q) n i d → d.name ≡ x
            → Has (enabled n i) → (t : Owner) → LeadsTo n i d t → Has (on t g)

        abbrev Gives : Fact Owner → Type 0
        Gives (here n) = (i : ℕ) (d : Dependency) → Brings (owner_brings q) n i d
            → ((n ≡ the_root) ⊎ (d.optional ≡ false) → Has (enabled n i))
            × ((t : Owner) → LeadsTo n i d t → n ≡ the_root → (a : List ℕ × List ℕ) → Contains q.root_asks a
            → d.name ≡ a.0 → Has (on t a.1))
        Gives (on n f) = (es : List Entry) → entries_at f (owner_brings q n).features ≡ Some es → (e : Entry)
            → Contains es e → EntryGives n e
        Gives (enabled n i) = (d : Dependency) → Brings (owner_brings q) n i d → (t : Owner) → LeadsTo n i d t
            → Has (here t) × ((g : List ℕ) → Contains (asked_of_target d) g → Has (on t g))

        pub record IsClosed : Type 0 where
          pub begins : Contains fs (here the_root)
          pub gives : (f : Fact Owner) → Contains fs f → Gives f

        need : (n : Owner) (i : ℕ) (d : Dependency) → Reached (here n) → Brings (owner_brings q) n i d
            → New ⊎ ((n ≡ the_root) ⊎ (d.optional ≡ false) → Has (enabled n i))
        need the_root i d h b = then (or_new (enabled the_root i) (root_needs the_root i d h refl b)) (λ c _. c)
        need (version_of name v) i d h b = by d.optional refl
          where
            by : (o : Bool) → d.optional ≡ o
                → New ⊎ ((version_of name v ≡ the_root) ⊎ (d.optional ≡ false) → Has (enabled (version_of name v) i))
            by true e = inr (λ s. elim s [ inl x ↦ cc | inr x ↦ absurd (true≢false (sym e ∙ x)) ])
            by false e = then (or_new (enabled (version_of name v) i) (needs (version_of name v) i d h b e)) (λ c _. c)

        ask_root : (n t : Owner) (i : ℕ) (d : Dependency) → Reached (here n)
            → Brings (owner_brings q) n i d → LeadsTo n i d t
            → New ⊎ (n ≡ the_root → (a : List ℕ × List ℕ) → Contains q.root_asks a → d.name ≡ a.0 → Has (on t a.1))
        ask_root the_root t i d h b l = then (each_of q.root_asks (λ a. d.name ≡ a.0 → Has (on t a.1))
            (λ a c. if_called d.name a.0 (Has (on t a.1)) (λ e. or_new (on t a.1)
            (root_wants the_root t i d a.1 h refl b l (subst (λ x. Contains q.root_asks (x, a.1)) (sym e) c)))))
            (λ f _.
            f)
        ask_root (version_of name v) t i d h b l = inr (λ e. cc)

        give_entry : (n : Owner) (f : List ℕ) (e : Entry) → Reached (on n f)
            → Lists (owner_brings q) n f e → New ⊎ EntryGives n e
        give_entry n f (feature g) h l = or_new (on n g) (turns_on n f g h l)
        give_entry n f (dependency x) h l =
            each_at (owner_brings q n).dependencies (λ i d. d.name ≡ x → Has (enabled n i))
            (λ i d b. if_called d.name x (Has (enabled n i)) (λ e. or_new (enabled n i)
            (enables n i d f h b (subst (λ y. Lists (owner_brings q) n f (dependency y)) (sym e) l))))
        give_entry n f (dependency_feature x g) h l = each_at (owner_brings q n).dependencies
            (λ i d. d.name ≡ x → Has (enabled n i) × ((t : Owner) → LeadsTo n i d t → Has (on t g)))
            (λ i d b. if_called d.name x (Has (enabled n i) × ((t : Owner) → LeadsTo n i d t → Has (on t g))) (λ e.
            let k = subst (λ y. Lists (owner_brings q) n f (dependency_feature y g)) (sym e) l in
            two (or_new (enabled n i) (enables_for n i d f g h b k))
            (each_lead n i d (λ t. Has (on t g)) (λ t to. or_new (on t g) (wants n t i d f g h b k to)))))
        give_entry n f (weak_feature x g) h l = each_at (owner_brings q n).dependencies
            (λ i d. d.name ≡ x → Has (enabled n i) → (t : Owner) → LeadsTo n i d t → Has (on t g))
            (λ i d b. if_called d.name x (Has (enabled n i) → (t : Owner) → LeadsTo n i d t → Has (on t g)) (λ e.
            weak i d b
            (subst (λ y. Lists (owner_brings q) n f (weak_feature y g)) (sym e) l) (is_among fs (enabled n i))))
          where
            weak : (i : ℕ) (d : Dependency) → Brings (owner_brings q) n i d
                → Lists (owner_brings q) n f (weak_feature d.name g)
                → Has (enabled n i) ⊎ (Has (enabled n i) → ⊥)
                → New ⊎ (Has (enabled n i) → (t : Owner) → LeadsTo n i d t → Has (on t g))
            weak i d b k (inr never) = inr (λ c. absurd (never c))
            weak i d b k (inl c) = then (each_lead n i d (λ t. Has (on t g))
                (λ t to. or_new (on t g) (wants_weakly n t i d f g h b k (sound (enabled n i) c) to))) (λ r _. r)

        give : (f : Fact Owner) → Reached f → New ⊎ Gives f
        give (here n) h = each_at (owner_brings q n).dependencies
            (λ i d. ((n ≡ the_root) ⊎ (d.optional ≡ false) → Has (enabled n i))
            × ((t : Owner) → LeadsTo n i d t → n ≡ the_root → (a : List ℕ × List ℕ) → Contains q.root_asks a
            → d.name ≡ a.0 → Has (on t a.1)))
            (λ i d b. two (need n i d h b)
            (each_lead n i d (λ t. n ≡ the_root → (a : List ℕ × List ℕ) → Contains q.root_asks a → d.name ≡ a.0
            → Has (on t a.1)) (λ t l. ask_root n t i d h b l)))
        give (on n f) h = by (entries_at f (owner_brings q n).features) refl
          where
            by : (o : Option (List Entry)) → entries_at f (owner_brings q n).features ≡ o → New ⊎ Gives (on n f)
            by None e = inr (λ es got. absurd (none-some es (sym e ∙ got)))
            by (Some es) e = then (each_of es (EntryGives n) (λ x c. give_entry n f x h (es, e, c)))
                (λ g xs got x c. g x (subst (λ ys. Contains ys x) (same_Some xs es (sym got ∙ e)) c))
        give (enabled n i) h = by (slice_get (owner_brings q n).dependencies i) refl
          where
            by : (o : Option Dependency) → slice_get (owner_brings q n).dependencies i ≡ o → New ⊎ Gives (enabled n i)
            by None e = inr (λ d b. absurd (none-some d (sym e ∙ b)))
            by (Some d) e = then
                (each_lead n i d (λ t. Has (here t) × ((g : List ℕ) → Contains (asked_of_target d) g → Has (on t g)))
                (λ t l. two (or_new (here t) (arrives n t i d h e l)) (each_of (asked_of_target d)
                (λ g. Has (on t g)) (λ g a. or_new (on t g) (asks n t i d g h e l a)))))
                (λ g x b. subst (λ (y : Dependency). (t : Owner) → LeadsTo n i y t
                → Has (here t) × ((g : List ℕ) → Contains (asked_of_target y) g → Has (on t g)))
                (same_Some d x (sym e ∙ b)) g)

        step : New ⊎ IsClosed
        step = then (two (or_new (here the_root) (starts the_root refl)) (each_of fs Gives (λ f c. give f (sound f c))))
            (λ r. record { begins = r.0; gives = r.1 })

        -- a list that is closed has all facts
        has_all : IsClosed → (f : Fact Owner) → Reached f → Has f
        has_all x f (starts n e) = subst (λ o. Has (here o)) (sym e) x.begins
        has_all x f (arrives n t i d h b l) = (x.gives (enabled n i) (has_all x (enabled n i) h) d b t l).0
        has_all x f (root_needs n i d h e b) = (x.gives (here n) (has_all x (here n) h) i d b).0 (inl e)
        has_all x f (needs n i d h b o) = (x.gives (here n) (has_all x (here n) h) i d b).0 (inr o)
        has_all x f (asks n t i d g h b l a) = (x.gives (enabled n i) (has_all x (enabled n i) h) d b t l).1 g a
        has_all x f (root_wants n t i d g h e b l a) =
            (x.gives (here n) (has_all x (here n) h) i d b).1 t l e (d.name, g) a refl
        has_all x f (turns_on n g k h l) = x.gives (on n g) (has_all x (on n g) h) l.0 l.1 (feature k) l.2
        has_all x f (enables n i d g h b l) =
            x.gives (on n g) (has_all x (on n g) h) l.0 l.1 (dependency d.name) l.2 i d b refl
        has_all x f (enables_for n i d g k h b l) =
            (x.gives (on n g) (has_all x (on n g) h) l.0 l.1 (dependency_feature d.name k) l.2 i d b refl).0
        has_all x f (wants n t i d g k h b l to) =
            (x.gives (on n g) (has_all x (on n g) h) l.0 l.1 (dependency_feature d.name k) l.2 i d b refl).1 t to
        has_all x f (wants_weakly n t i d g k h b l e to) =
            x.gives (on n g) (has_all x (on n g) h) l.0 l.1 (weak_feature d.name k) l.2 i d b refl
            (has_all x (enabled n i) e) t to

      -- all facts, as a list
      pub record AllFacts : Type 0 where
        pub facts : List (Fact Owner)
        pub sound : (f : Fact Owner) → Contains facts f → Reached f
        pub complete : (f : Fact Owner) → Reached f → Contains facts f

      close : (m : ℕ) (fs : List (Fact Owner)) → ((f : Fact Owner) → Contains fs f → Reached f)
          → missing fs universe ≤ m → AllFacts
      close zero fs sound few = elim (step fs sound) [
        | inl n ↦ absurd (let k = one_less n.0 fs universe n.2 (within n.0 n.1) in omega (arith, k))
        | inr x ↦ record { facts = fs; sound = sound; complete = has_all fs sound x }
      ]
      close (suc m) fs sound few = elim (step fs sound) [
        | inl n ↦ close m (n.0 ∷ fs)
            (λ g c. elim (in_cons n.0 g fs c) [ inl e ↦ subst Reached e n.1 | inr r ↦ sound g r ])
            (let k = one_less n.0 fs universe n.2 (within n.0 n.1) in omega (arith, k))
        | inr x ↦ record { facts = fs; sound = sound; complete = has_all fs sound x }
      ]

      pub all_facts : AllFacts
      all_facts = close (missing [] universe) [] (λ f c. absurd (in_none f c)) (omega arith)
