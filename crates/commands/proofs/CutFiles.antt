-- A file that is longer than may be has one meaning, whatever comes after its limit.
use Rattle.std.proofs.Common.{◌≡◌, ℕ, ◌+◌, ◌<◌, ◌≤◌, List, length, take, true, false, nat_le, nat_lt, Err, inl}
use Rattle.std.proofs.Common.{inr, refl, sym, ◌∙◌, arith}
use Rattle.std.proofs.lemmas.Bool.{cases_lt}
use Rattle.std.proofs.lemmas.List.{length-take-le, take_all}
use Rattle.manifest.specs.Manifests.{limit, manifest_of_bytes}
use Rattle.manifest.specs.declared.fault.ManifestFault.TheVariants as manifest
use Rattle.lockfile.specs.Locks.{content_of_bytes, most_bytes}
use Rattle.lockfile.specs.declared.fault.LockFault.TheVariants as lock
use Rattle.commands.specs.Disks.{most_of_lock, most_of_manifest}

cut-same : {A : Type 0} (f : List ℕ → A) (most : ℕ) (a : A) → ((bytes : List ℕ) → most < length bytes → f bytes ≡ a)
    → (bytes : List ℕ) → f (take (most + 1) bytes) ≡ f bytes
cut-same f most a long bytes = elim (cases_lt most (length bytes)) [
  | inl more ↦
      let within : most + 1 ≤ length bytes = grind (arith, more) in
      let cut : length (take (most + 1) bytes) ≡ most + 1 = length-take-le (most + 1) bytes within in
      long (take (most + 1) bytes) (grind (arith, cut)) ∙ sym (long bytes more)
  | inr few ↦ rw (take_all (most + 1) bytes (grind (arith, few))) refl
]

long-manifest : (bytes : List ℕ) → limit < length bytes → manifest_of_bytes bytes ≡ Err manifest.TooLarge
unfolding manifest_of_bytes
long-manifest bytes more =
    let test : nat_le (length bytes) limit ≡ false = grind (arith, more) in
    rw test refl

pub manifest-cut : (bytes : List ℕ) → manifest_of_bytes (take most_of_manifest bytes) ≡ manifest_of_bytes bytes
manifest-cut = cut-same manifest_of_bytes limit (Err manifest.TooLarge) long-manifest

long-lock : (bytes : List ℕ) → most_bytes < length bytes → content_of_bytes bytes ≡ Err lock.TooLarge
unfolding content_of_bytes
long-lock bytes more =
    let test : nat_lt most_bytes (length bytes) ≡ true = grind (arith, more) in
    rw test refl

pub lock-cut : (bytes : List ℕ) → content_of_bytes (take most_of_lock bytes) ≡ content_of_bytes bytes
lock-cut = cut-same content_of_bytes most_bytes (Err lock.TooLarge) long-lock
