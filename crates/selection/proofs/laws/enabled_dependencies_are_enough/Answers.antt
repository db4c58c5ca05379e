use Rattle.model.specs.Walk.{Picks}
use Rattle.selection.specs.inner.Followed.{PicksFollowed}
use Rattle.selection.proofs.Followed.{already, stands_still, still}
use Rattle.selection.proofs.laws.enabled_dependencies_are_enough.Goals as goal

pub returns-clause-facts : goal.returns-clause-facts
returns-clause-facts c = λ q preferred all asked owners are x. (
  still q (Picks q preferred) (PicksFollowed all asked owners q preferred) (λ o t i d l. l.1) x,
  already q (Picks q preferred) (PicksFollowed all asked owners q preferred) (λ o t i d l. l.1)
      (λ o t i d h b l. (are o i d h b, l)) x,
)

pub returns-clause-walk : goal.returns-clause-walk
returns-clause-walk c = λ q preferred all asked owners content are stands.
    stands_still q (Picks q preferred) (PicksFollowed all asked owners q preferred) (λ o t i d l. l.1)
    (λ o t i d h b l. (are o i d h b, l)) content stands
