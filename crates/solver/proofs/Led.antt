-- Where dependencies lead in states that break no instance: to a candidate, and to one alone.
use Rattle.std.proofs.Common.{◌≡◌, ℕ, ◌+◌, List, [], ◌∷◌, ◌++◌, map, length, filter, Bool, true, false, cond, ◌||◌}
use Rattle.std.proofs.Common.{Option, Some, None, option_map, slice_get, refl, sym, ap, ◌∙◌, subst, inl, inr, arith}
use Rattle.std.proofs.Common.{true≢false}
use Rattle.std.specs.Option.{MatchOption}
use Rattle.std.specs.List.{All, list_any}
use Rattle.std.proofs.lemmas.List.{length-append}
use Rattle.std.proofs.lemmas.Option.{slice_get_within, slice_get-map, same_Some, none-some}
use Rattle.std.proofs.lemmas.Bool.{or_right}
use Rattle.semver.specs.Parse.{Parts}
use Rattle.semver.specs.Identifiers.{parts_of}
use Rattle.semver.specs.declared.Version.{Version}
use Rattle.model.specs.Summary.{Dependency}
use Rattle.model.specs.Content.{Candidate, Problem, candidates_of, same_version}
use Rattle.model.specs.Candidates.{Record}
use Rattle.model.specs.Selection.{Class}
use Rattle.model.specs.Vertices.{Owner, version_of, Vertex, pkg, dep, State, absent, present, version, in_class}
use Rattle.model.specs.Vertices.{has_state, in_that_class, same_state, space}
use Rattle.model.specs.inner.Search.{IsUnbroken, LeadsTo}
use Rattle.model.proofs.Lists.{all_first, all_rest}
use Rattle.model.proofs.Places.{some_at, get_push_cases}
use Rattle.catalogue.proofs.Lookups.{candidates_are}
use Rattle.catalogue.specs.Stores.{CatalogueView, candidates_at, rows_by_name}
use Rattle.facts.specs.inner.Nodes.{AreLeads, IsLead}
use Rattle.selection.specs.inner.Contents.{owner_if, owners_of, met_owner}
use Rattle.selection.specs.declared.met.MetVersion.{MetVersion}
use Rattle.selection.proofs.Rows.{versions_are}
use Rattle.solver.specs.inner.Leads.{AreLed, ArePut, AreThere, IsLed, IsPut, class_if, version_if}

-- ---- states

class_is : (s : State) (k : Class) → class_if s ≡ Some k → s ≡ in_class k
class_is absent k e = absurd (none-some k e)
class_is present k e = absurd (none-some k e)
class_is (version v) k e = absurd (none-some k e)
class_is (in_class j) k e = ap in_class (same_Some j k e)

version_is : (s : State) (v : Parts) → version_if s ≡ Some v → s ≡ version v
version_is absent v e = absurd (none-some v e)
version_is present v e = absurd (none-some v e)
version_is (version w) v e = ap version (same_Some w v e)
version_is (in_class k) v e = absurd (none-some v e)

-- ---- candidates

got_mapped : {X Y : Type 0} (f : X → Y) (o : Option X) (y : Y) → option_map f o ≡ Some y
    → (x : X) × (o ≡ Some x) × (f x ≡ y)
got_mapped f None y e = absurd (none-some y e)
got_mapped f (Some x) y e = (x, refl, same_Some (f x) y e)

-- the versions of a name, as they are read and as the problem has them
versions_same : (index : CatalogueView) (name : List ℕ) (vs : List Version)
    → map parts_of vs ≡ map (λ (r : Record). r.version) (candidates_at index name)
    → map parts_of vs ≡ map (λ (c : Candidate). c.version) (candidates_of (rows_by_name index) name)
versions_same index name vs e = e ∙ versions_are (candidates_at index name)
    ∙ ap (map (λ (c : Candidate). c.version)) (sym (candidates_are index name))

stands : (cs : List Candidate) (vs : List Parts) (p : ℕ) (v : Parts) → vs ≡ map (λ (c : Candidate). c.version) cs
    → slice_get vs p ≡ Some v
    → (c : Candidate) × (slice_get cs p ≡ Some c) × (c.version ≡ v)
stands cs vs p v e got = got_mapped (λ (c : Candidate). c.version) (slice_get cs p) v
    (sym (slice_get-map (λ (c : Candidate). c.version) cs p) ∙ sym (ap (λ l. slice_get l p) e) ∙ got)

-- the owner that a version is that is met, by what is read of it
pub owner_is : (index : CatalogueView) (s : MetVersion) (vs : List Version) (v : Parts) → map parts_of vs
    ≡ map (λ (r : Record). r.version) (candidates_at index s.name) → slice_get (map parts_of vs) s.place ≡ Some v
    → version_of s.name v ≡ met_owner index s
owner_is index s vs v e got =
    let (c, at, is) = stands (candidates_of (rows_by_name index) s.name) (map parts_of vs) s.place v
    (versions_same index s.name vs e) got in
    ap (version_of s.name) (sym is) ∙ sym (ap (owner_if s.name) at)

keep_or : (a b r : Bool) → (b ≡ true → r ≡ true) → (a || b) ≡ true → (a || r) ≡ true
keep_or true b r f h = refl
keep_or false b r f h = f h

any_version : (k : Class) (v : Parts) (cs : List Candidate) → list_any (same_state (version v))
    (map (λ (c : Candidate). version c.version) (filter (in_that_class k) cs)) ≡ true
    → list_any (same_version v) (map (λ (c : Candidate). c.version) cs) ≡ true
any_version k v [] h = h
any_version k v (c ∷ cs) h = by (in_that_class k c) (any_version k v cs) h
  where
    by : (b : Bool)
        → (list_any (same_state (version v)) (map (λ (c : Candidate). version c.version) (filter (in_that_class k) cs))
        ≡ true → list_any (same_version v) (map (λ (c : Candidate). c.version) cs) ≡ true)
        → list_any (same_state (version v)) (map (λ (c : Candidate). version c.version)
        (cond b (c ∷ filter (in_that_class k) cs) (filter (in_that_class k) cs))) ≡ true
        → (same_version v c.version || list_any (same_version v) (map (λ (c : Candidate). c.version) cs)) ≡ true
    by true rest h = keep_or (same_version v c.version)
        (list_any (same_state (version v)) (map (λ (c : Candidate). version c.version) (filter (in_that_class k) cs)))
        (list_any (same_version v) (map (λ (c : Candidate). c.version) cs)) rest h
    by false rest h =
        or_right (same_version v c.version) (list_any (same_version v) (map (λ (c : Candidate). c.version) cs)) (rest h)

no_version_same : (v : Parts) (vs : List Version) → All (λ w. same_version v (parts_of w) ≡ false) vs
    → list_any (same_version v) (map parts_of vs) ≡ false
no_version_same v [] h = refl
no_version_same v (w ∷ vs) h =
    ap (λ b. b || list_any (same_version v) (map parts_of vs))
    (all_first (λ w. same_version v (parts_of w) ≡ false) w vs h)
    ∙ no_version_same v vs (all_rest (λ w. same_version v (parts_of w) ≡ false) w vs h)

-- ---- one dependency

module _ (q : Problem) (state : Vertex → State) (index : CatalogueView) (o : Owner) (i : ℕ) (d : Dependency) where
  pub no_class : class_if (state (dep o i)) ≡ None → IsLed q state index o i d None
  no_class e t l = none-some l.k (sym e ∙ ap class_if l.chosen)

  pub no_version : (k : Class) → class_if (state (dep o i)) ≡ Some k → version_if (state (pkg d.real_name k)) ≡ None
      → IsLed q state index o i d None
  no_version k e f t l =
      let same : k ≡ l.k = same_Some k l.k (sym e ∙ ap class_if l.chosen) in
      none-some l.v (sym f ∙ ap version_if (ap (λ k. state (pkg d.real_name k)) same ∙ l.locked))

  pub found : (k : Class) (v : Parts) (vs : List Version) (r : Option ℕ) → IsUnbroken q state
      → q.candidates ≡ rows_by_name index
      → map parts_of vs ≡ map (λ (r : Record). r.version) (candidates_at index d.real_name)
      → class_if (state (dep o i)) ≡ Some k → version_if (state (pkg d.real_name k)) ≡ Some v
      → MatchOption r (All (λ w. same_version v (parts_of w) ≡ false) vs) (λ p. slice_get (map parts_of vs) p ≡ Some v)
      → IsLed q state index o i d r
  found k v vs (Some p) unbroken rows e chosen locked got =
      let (c, at, is) = stands (candidates_of (rows_by_name index) d.real_name) (map parts_of vs) p v
      (versions_same index d.real_name vs e) got in (
        c,
        at,
        record {
          k = k;
          v = v;
          chosen = class_is (state (dep o i)) k chosen;
          locked = version_is (state (pkg d.real_name k)) v locked;
          target = ap (version_of d.real_name) is;
        },
      )
  found k v vs None unbroken rows e chosen locked none =
      let within : has_state (space q (pkg d.real_name k)) (version v) ≡ true
      = ap (has_state (space q (pkg d.real_name k))) (sym (version_is (state (pkg d.real_name k)) v locked))
      ∙ unbroken.within (pkg d.real_name k) in
      let some : list_any (same_version v) (map (λ (c : Candidate). c.version) (candidates_of q.candidates d.real_name))
      ≡ true = any_version k v (candidates_of q.candidates d.real_name) within in
      let all : map parts_of vs ≡ map (λ (c : Candidate). c.version) (candidates_of q.candidates d.real_name)
      = versions_same index d.real_name vs e
      ∙ ap (λ rows. map (λ (c : Candidate). c.version) (candidates_of rows d.real_name)) (sym rows) in
      absurd (true≢false (sym some ∙ sym (ap (list_any (same_version v)) all) ∙ no_version_same v vs none))

  -- it leads to one owner alone
  pub leads_once : (t u : Owner) → LeadsTo q state o i d t → LeadsTo q state o i d u → t ≡ u
  leads_once t u a b =
      let classes : a.k ≡ b.k = same_Some a.k b.k (ap class_if (sym a.chosen ∙ b.chosen)) in
      let versions : a.v ≡ b.v =
      same_Some a.v b.v (ap version_if (sym a.locked ∙ ap (λ k. state (pkg d.real_name k)) classes ∙ b.locked)) in
      a.target ∙ ap (version_of d.real_name) versions ∙ sym b.target

  pub lead_of : (versions : List MetVersion) (p target : Option ℕ) → IsLed q state index o i d p
      → IsPut index versions d.real_name p target
      → IsLead q (LeadsTo q state) (owners_of index versions) o i d target
  lead_of versions None None led put = led
  lead_of versions None (Some n) led put = absurd put
  lead_of versions (Some p) None led put = absurd put
  lead_of versions (Some p) (Some n) (c, at, leads) put = (
    version_of d.real_name c.version,
    put
        ∙ ap Some (ap (owner_if d.real_name) at),
    leads,
    λ u l. leads_once (version_of d.real_name c.version) u leads l,
  )

-- ---- the dependencies of an owner, one after another

module _ (q : Problem) (state : Vertex → State) (index : CatalogueView) (o : Owner) where
  -- where the first n lead
  pub record LedTo (ds : List Dependency) (n : ℕ) (places : List (Option ℕ)) : Type 0 where
    pub many : length places ≡ n
    pub led : (i : ℕ) (d : Dependency) (p : Option ℕ) → slice_get ds i ≡ Some d → slice_get places i ≡ Some p
        → IsLed q state index o i d p

  pub one_led : (ds : List Dependency) (n : ℕ) (places more : List (Option ℕ)) (d : Dependency) (p : Option ℕ)
      → LedTo ds n places → slice_get ds n ≡ Some d → IsLed q state index o n d p
      → more ≡ places ++ p ∷ [] → LedTo ds (n + 1) more
  one_led ds n places more d p h there led e =
      let many = h.many in
      record {
        many = ap length e ∙ length-append places (p ∷ []) ∙ omega (arith, many);
        led = λ i d' p' got at. elim (get_push_cases places p i p' (sym (ap (λ l. slice_get l i) e) ∙ at)) [
          | inl before ↦ h.led i d' p' got before
          | inr last ↦
              let here : n ≡ i = sym (last.0 ∙ many) in
              let same : d ≡ d' = same_Some d d' (sym there ∙ ap (slice_get ds) here ∙ got) in
              subst (λ k. IsLed q state index o k d' p') here
              (subst (λ x. IsLed q state index o n x p') same (subst (IsLed q state index o n d) last.1 led))
        ];
      }

  -- a candidate stands where one leads
  pub led_there : (ds : List Dependency) (places : List (Option ℕ)) → AreLed q state index o ds places
      → AreThere index ds places
  led_there ds places h i d p got at = let (c, there, leads) = h.led i d (Some p) got at in (c, there)

  pub leads_of : (versions : List MetVersion) (ds : List Dependency) (places targets : List (Option ℕ))
      → AreLed q state index o ds places → ArePut index versions ds places targets
      → AreLeads q (LeadsTo q state) (owners_of index versions) o ds targets
  leads_of versions ds places targets led put = record {
    as_many = put.as_many;
    leads = λ i d target got at. (
        let lt = slice_get_within ds i d got in
        let many = led.as_many in
        let (p, there) = some_at places i (omega (arith, lt, many)) in
        lead_of q state index o i d versions p target (led.led i d p got there) (put.put i d p target got there at));
  }
