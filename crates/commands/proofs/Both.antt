-- What follows of a result from several facts of it.
use Rattle.std.proofs.Common.{Result, Ok, Err, IfErr, IfOk}

-- three facts of what a result gives, together
pub three_if_ok : {T E : Type 0} {P Q R Z : T → Type 0} (r : Result T E) → ((x : T) → P x → Q x → R x → Z x) → IfOk r P
    → IfOk r Q → IfOk r R → IfOk r Z
three_if_ok (Ok x) joined p q z = joined x p q z
three_if_ok (Err e) joined p q z = p

-- two facts of its error
pub both_if_err : {T E : Type 0} {P Q R : E → Type 0} (r : Result T E) → ((e : E) → P e → Q e → R e)
    → IfErr r P → IfErr r Q → IfErr r R
both_if_err (Ok x) joined p q = p
both_if_err (Err e) joined p q = joined e p q

-- one fact of the whole
pub ok_with : {T E : Type 0} (r : Result T E) (P : Result T E → Type 0) → P r → IfOk r (λ x. P (Ok x))
ok_with (Ok x) P p = p
ok_with (Err e) P p = tt

pub err_with : {T E : Type 0} (r : Result T E) (P : Result T E → Type 0) → P r → IfErr r (λ e. P (Err e))
err_with (Ok x) P p = tt
err_with (Err e) P p = p

-- what follows of what it gives
pub map_ok : {T E : Type 0} {P Q : T → Type 0} (r : Result T E) → ((x : T) → P x → Q x) → IfOk r P → IfOk r Q
map_ok (Ok x) f p = f x p
map_ok (Err e) f p = p

-- what follows of its error
pub map_err : {T E : Type 0} {P Q : E → Type 0} (r : Result T E) → ((e : E) → P e → Q e) → IfErr r P → IfErr r Q
map_err (Ok x) f p = p
map_err (Err e) f p = f e p
