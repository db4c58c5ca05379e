-- Lists in an order, each element once (this project's).
use Rattle.std.specs.Prelude.{if◌then◌else◌, List, Ok, Err}
use Rattle.std.specs.Ordering.{eq_by_cmp}
use Rattle.std.specs.declared.cmp.Ordering.{Ordering}
use Rattle.model.specs.Order.{has_alike, in_order}
use Rattle.derivations.specs.Lines.{Line}
use Rattle.derivations.specs.declared.fault.LineFault.TheVariants.{NotALine}

-- the elements by an order, where each two have different places in it
abbrev pub ordered : {X : Type 0} → (X → X → Ordering) → List X → Line (List X)
ordered cmp xs = if has_alike (eq_by_cmp cmp) xs then Err NotALine else Ok (in_order cmp xs)
