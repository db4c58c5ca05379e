use Rattle.std.proofs.Common.{◌≡◌, IfOk, IfSome, ℕ, List, Option, None, Some, Result, Ok, Err, Vec, take, option_map}
use Rattle.std.specs.declared.alloc.Global.{Global}
use Rattle.std.specs.declared.io.Error.{Error}
use Rattle.index_reader.proofs.opened.AnyFronted.front_in.Goals as goal

-- all of the first bytes that are left are the first of those that are left
first_of_left : (r : Result (Vec ℕ Global) Error) (most : ℕ) (left : Option (List ℕ))
    → IfOk r (λ bytes. IfSome (option_map (take most) left) (λ rest. bytes.items ≡ rest))
    → IfOk r (λ bytes. IfSome left (λ whole. bytes.items ≡ take most whole))
first_of_left (Ok bytes) most (Some whole) h = h
first_of_left (Ok bytes) most None h = tt
first_of_left (Err e) most left h = tt

pub returns-clause-bytes : goal.returns-clause-bytes
returns-clause-bytes g c = first_of_left c.rest_of.result c.args.most (g.F.Read.remaining c.args.self)
    (rw (← c.take.ensures.limit, ← c.take.ensures.inner) c.rest_of.ensures)
