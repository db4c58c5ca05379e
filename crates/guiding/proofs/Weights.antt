-- What brings the number down.
use Rattle.std.proofs.Common.{ℕ, zero, suc, ◌+◌, ◌*◌, ◌^◌, ◌<◌, ◌≤◌, List, [], ◌∷◌, ◌++◌, ◌-◌, length}
use Rattle.std.proofs.Common.{arith}
use Rattle.std.proofs.lemmas.Nat.{mul-le}
use Rattle.std.proofs.Math.Nat.{pow-suc, pow-zero}
use Rattle.guiding.specs.inner.Measures.{Falling, weigh, measure_of}

-- one digit in front
digit : (x b p w : ℕ) → x < b → w < p → x * p + w < p * b
digit x b p w xb wp = let more : (x + 1) * p ≤ b * p =
    mul-le (x + 1) p b p (omega arith) (omega arith) in omega (arith, more)

pub weigh_below : (s n b : ℕ) (xs : List ℕ) → b ≤ s + 2 → Falling b xs → weigh s n xs < (s + 2) ^ n
unfolding weigh
weigh_below s zero b xs le f = rw pow-zero (omega arith)
weigh_below s (suc n) b [] le f =
    rw pow-suc (digit (s + 1) (s + 2) ((s + 2) ^ n) (weigh s n []) (omega arith) (weigh_below s n b [] le f))
weigh_below s (suc n) b (x ∷ xs) le f = rw pow-suc
    (digit x (s + 2) ((s + 2) ^ n) (weigh s n xs) (omega (arith, f.0)) (weigh_below s n x xs (omega (arith, f.0)) f.1))

-- a place that is less, whatever comes after it
lower : (x y p v w : ℕ) → y < x → w < p → y * p + w < x * p + v
lower x y p v w lt wp = let more : (y + 1) * p ≤ x * p =
    mul-le (y + 1) p x p (omega arith) (omega arith) in omega (arith, more)

pub weigh_lower : (s n b : ℕ) (front : List ℕ) (x y : ℕ) (old new : List ℕ) → length front < n → b ≤ s + 2 → y < x
    → Falling b (front ++ y ∷ new) → weigh s n (front ++ y ∷ new) < weigh s n (front ++ x ∷ old)
unfolding weigh
weigh_lower s zero b front x y old new len le lt f = absurd (omega (arith, len))
weigh_lower s (suc n) b [] x y old new len le lt f =
    lower x y ((s + 2) ^ n) (weigh s n old) (weigh s n new) lt (weigh_below s n y new (omega (arith, f.0)) f.1)
weigh_lower s (suc n) b (z ∷ front) x y old new len le lt f =
    let ih = weigh_lower s n z front x y old new (omega (arith, len)) (omega (arith, f.0)) lt f.1 in
    omega (arith, ih)

-- a new place at the end
pub weigh_longer : (s n b : ℕ) (front : List ℕ) (y : ℕ) (new : List ℕ) → length front < n → b ≤ s + 1
    → Falling b (front ++ y ∷ new) → weigh s n (front ++ y ∷ new) < weigh s n front
unfolding weigh
weigh_longer s zero b front y new len le f = absurd (omega (arith, len))
weigh_longer s (suc n) b [] y new len le f = lower (s + 1) y ((s + 2) ^ n) (weigh s n []) (weigh s n new)
    (omega (arith, f.0)) (weigh_below s n y new (omega (arith, f.0)) f.1)
weigh_longer s (suc n) b (z ∷ front) y new len le f =
    let ih = weigh_longer s n z front y new (omega (arith, len)) (omega (arith, f.0)) f.1 in
    omega (arith, ih)

pub short_front : (b : ℕ) (front : List ℕ) (y : ℕ) (new : List ℕ) → Falling b (front ++ y ∷ new) → length front < b
short_front b [] y new f = omega (arith, f.0)
short_front b (x ∷ xs) y new f = let ih = short_front x xs y new f.1 in omega (arith, ih, f.0)

-- the three ways in which a search goes on
pub measure_lower : (s : ℕ) (front : List ℕ) (x y : ℕ) (old new : List ℕ) → y < x → Falling (s + 1) (front ++ y ∷ new)
    → measure_of s (front ++ y ∷ new) < measure_of s (front ++ x ∷ old)
unfolding measure_of
measure_lower s front x y old new lt f = weigh_lower s (suc s) (s + 1) front x y old new
    (let k = short_front (s + 1) front y new f in omega (arith, k)) (omega arith) lt f

pub measure_longer : (s : ℕ) (front : List ℕ) (y : ℕ) (new : List ℕ) → Falling (s + 1) (front ++ y ∷ new)
    → measure_of s (front ++ y ∷ new) < measure_of s front
unfolding measure_of
measure_longer s front y new f = weigh_longer s (suc s) (s + 1) front y new
    (let k = short_front (s + 1) front y new f in omega (arith, k)) (omega arith) f
