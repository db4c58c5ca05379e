-- What the clauses of a reader of texts say of the bytes that it is given.
use Rattle.std.proofs.Common.{◌≡◌, ℕ, List, Bool, true, false, cond, Option, Some, None, refl, IsUtf8}
use Rattle.std.proofs.lemmas.Str.{is_utf8-from_IsUtf8, IsUtf8-from_is_utf8}
use Rattle.std.specs.Str.{is_utf8}
use Rattle.model.specs.Content.{of_utf8}

pub utf8-read : {X : Type 0} (read : List ℕ → Option X) (bytes : List ℕ) (x : X) → IsUtf8 bytes
    → read bytes ≡ Some x → of_utf8 read bytes ≡ Some x
utf8-read read bytes x text is = rw (is_utf8-from_IsUtf8 bytes text, is) refl

none-where : {X : Type 0} (b : Bool) (o : Option X) → (b ≡ true → o ≡ None) → cond b o None ≡ None
none-where true o h = h refl
none-where false o h = refl

pub utf8-refused : {X : Type 0} (read : List ℕ → Option X) (bytes : List ℕ) → (IsUtf8 bytes → read bytes ≡ None)
    → of_utf8 read bytes ≡ None
utf8-refused read bytes h = none-where (is_utf8 bytes) (read bytes) (λ e. h (IsUtf8-from_is_utf8 bytes e))
