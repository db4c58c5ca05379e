-- Where each enabled dependency is followed, those that aren't make no difference: each reason goes through targets of
-- enabled dependencies alone.
use Rattle.std.proofs.Common.{◌≡◌, ℕ, Some, slice_get}
use Rattle.model.specs.Summary.{Dependency}
use Rattle.model.specs.Selection.{Fact, here, on, enabled, Brings}
use Rattle.model.specs.Selection.Holds.{starts, arrives, root_needs, needs, asks, root_wants, turns_on, enables}
use Rattle.model.specs.Selection.Holds.{enables_for, wants, wants_weakly}
use Rattle.model.specs.Content.{Content, Package, Problem}
use Rattle.model.specs.Vertices.{Owner, owner_brings}
use Rattle.model.specs.Walk.{IsLink, IsReachedFact, StandsFor, name_of}

-- ---- where fewer dependencies lead anywhere

module _ (q : Problem) (LeadsTo Fewer : Owner → ℕ → Dependency → Owner → Type 0)
    (within : (o t : Owner) (i : ℕ) (d : Dependency) → Fewer o i d t → LeadsTo o i d t) where
  abbrev Far : Fact Owner → Type 0
  Far = IsReachedFact q LeadsTo

  abbrev Near : Fact Owner → Type 0
  Near = IsReachedFact q Fewer

  -- each reason stays one
  pub still : (x : Fact Owner) → Near x → Far x
  still x (starts n s) = starts n s
  still x (arrives n t i d h b l) = arrives n t i d (still (enabled n i) h) b (within n t i d l)
  still x (root_needs n i d h is b) = root_needs n i d (still (here n) h) is b
  still x (needs n i d h b stays) = needs n i d (still (here n) h) b stays
  still x (asks n t i d f h b l a) = asks n t i d f (still (enabled n i) h) b (within n t i d l) a
  still x (root_wants n t i d g h is b l a) = root_wants n t i d g (still (here n) h) is b (within n t i d l) a
  still x (turns_on n f g h l) = turns_on n f g (still (on n f) h) l
  still x (enables n i d f h b l) = enables n i d f (still (on n f) h) b l
  still x (enables_for n i d f g h b l) = enables_for n i d f g (still (on n f) h) b l
  still x (wants n t i d f g h b l to) = wants n t i d f g (still (on n f) h) b l (within n t i d to)
  still x (wants_weakly n t i d f g h b l e to) =
      wants_weakly n t i d f g (still (on n f) h) b l (still (enabled n i) e) (within n t i d to)

  module _ (enough : (o t : Owner) (i : ℕ) (d : Dependency) → Near (enabled o i) → Brings (owner_brings q) o i d
      → LeadsTo o i d t → Fewer o i d t) where
    -- a reason that goes through a target has its dependency enabled before it
    pub already : (x : Fact Owner) → Far x → Near x
    already x (starts n s) = starts n s
    already x (arrives n t i d h b l) =
        let p = already (enabled n i) h in arrives n t i d p b (enough n t i d p b l)
    already x (root_needs n i d h is b) = root_needs n i d (already (here n) h) is b
    already x (needs n i d h b stays) = needs n i d (already (here n) h) b stays
    already x (asks n t i d f h b l a) =
        let p = already (enabled n i) h in asks n t i d f p b (enough n t i d p b l) a
    already x (root_wants n t i d g h is b l a) =
        let p = already (here n) h in
        root_wants n t i d g p is b (enough n t i d (root_needs n i d p is b) b l) a
    already x (turns_on n f g h l) = turns_on n f g (already (on n f) h) l
    already x (enables n i d f h b l) = enables n i d f (already (on n f) h) b l
    already x (enables_for n i d f g h b l) = enables_for n i d f g (already (on n f) h) b l
    already x (wants n t i d f g h b l to) =
        let p = already (on n f) h in
        wants n t i d f g p b l (enough n t i d (enables_for n i d f g p b l) b to)
    already x (wants_weakly n t i d f g h b l e to) =
        let p = already (enabled n i) e in
        wants_weakly n t i d f g (already (on n f) h) b l p (enough n t i d p b to)

    -- so a content that stands for the ones stands for the others
    module _ (content : Content) (s : StandsFor q Fewer content) where
      abbrev Linked : (Owner → ℕ → Dependency → Owner → Type 0) → ℕ → Package → Type 0
      Linked L t p = (r : Package) × (i : ℕ) × (d : Dependency) × (slice_get content t ≡ Some r) × IsLink q L p r i d

      link_still : (t : ℕ) (p : Package) → Linked Fewer t p → Linked LeadsTo t p
      link_still t p (r, i, d, got, link) = (
        r,
        i,
        d,
        got,
        record {
          brings = link.brings;
          is_enabled = still (enabled (name_of q p) i) link.is_enabled;
          leads = within (name_of q p) (name_of q r) i d link.leads;
        },
      )

      link_already : (t : ℕ) (p : Package) → Linked LeadsTo t p → Linked Fewer t p
      link_already t p (r, i, d, got, link) =
          let is_enabled = already (enabled (name_of q p) i) link.is_enabled in (
            r,
            i,
            d,
            got,
            record {
              brings = link.brings;
              is_enabled = is_enabled;
              leads = enough (name_of q p) (name_of q r) i d is_enabled link.brings link.leads;
            },
          )

      pub stands_still : StandsFor q LeadsTo content
      stands_still = record {
        is_content = s.is_content;
        packages = λ t. (
          λ h. (s.packages t).0 (already (here t) h),
          λ c. still (here t) ((s.packages t).1 c),
        );
        root_checksum = s.root_checksum;
        sources = s.sources;
        checksums = s.checksums;
        lists = λ n t p got. (
          λ c. link_still t p ((s.lists n t p got).0 c),
          λ l. (s.lists n t p got).1 (link_already t p l),
        );
      }
