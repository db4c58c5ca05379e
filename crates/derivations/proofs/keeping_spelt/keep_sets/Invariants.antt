use Rattle.std.proofs.Common.{◌≡◌, ◌++◌, length}
use Rattle.std.specs.Vec.Iter.{into_iter_items, into_iter_len}
use Rattle.derivations.specs.inner.Tables.{IsGrown, AreTermsOf, terms_at}
use Rattle.derivations.specs.inner.Named.{set_in_order_views}
use Rattle.derivations.proofs.keeping_spelt.keep_sets.Given as goal

-- the terms so far stand for those before the ones that are left
abbrev pub invariant-terms : goal.invariant-terms
invariant-terms l =
    record {
      can : (goal.iterator-terms).can_next l.term-iterator;
      finite : (goal.iterator-terms).is_finite l.term-iterator;
      counted : into_iter_len l.term-iterator ≡ length (into_iter_items l.term-iterator);
      grown : IsGrown l.fn.tables l.tables;
      within : AreTermsOf l.tables l.kept.items;
      told : terms_at l.tables l.kept.items ++ set_in_order_views (into_iter_items l.term-iterator)
          ≡ set_in_order_views l.fn.terms.items;
    }
