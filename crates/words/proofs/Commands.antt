-- What is known of the commands when the program is written.
use Rattle.std.proofs.Common.{◌≡◌, ◌&&◌, not, Bool, true, false, is_some, refl}
use Rattle.clap.specs.Words.{is_simple, is_simple_and_free, rule_of, shape_of}
use Rattle.clap.specs.Walk.{is_empty}
use Rattle.clap.specs.declared.builder.arg.Arg.{Arg}
use Rattle.clap.specs.declared.builder.command.Command.{Command}
use Rattle.clap.specs.declared.builder.command.Command.TheViews.{out-Command}
use Rattle.clap.proofs.OnLiterals.{clap_on_literals}
use Rattle.words.specs.Asked.{relock_app}

pub relock_is_simple : is_simple relock_app ≡ true
unfolding clap_on_literals
relock_is_simple = refl

pub relock_is_free : is_simple_and_free relock_app ≡ true
unfolding clap_on_literals
relock_is_free = refl

third : (a b c d : Bool) → (a && (b && (not c && d))) ≡ true → c ≡ false
third a b false d h = refl
third true true true d h = cc
third true false true d h = cc
third false b true d h = cc

-- no argument of a plain command is global
pub is_local : (c : Command) → (shape_of c).is_plain ≡ true → (out-Command c).has_globals ≡ false
is_local c h = third _ _ _ _ h

right : (a b : Bool) → (a && b) ≡ true → b ≡ true
right true b h = h
right false b h = cc

last : (a b c d e f g i j k : Bool)
    → (a && (b && (c && (d && (e && (f && (g && (i && (j && not k))))))))) ≡ true → k ≡ false
last a b c d e f g i j false h = refl
last a b c d e f g i j true h =
    let from_c = right b _ (right a _ h) in
    let from_e = right d _ (right c _ from_c) in
    let from_g = right f _ (right e _ from_e) in
    let from_j = right i _ (right g _ from_g) in
    let none = right j false from_j in cc

-- a simple argument is not global
pub is_not_global : (a : Arg) → (rule_of a).is_simple ≡ true → a.global ≡ false
is_not_global a h = last (is_empty a.overrides.items) (is_empty a.default_vals_ifs.items) (is_empty a.groups.items)
    (not (is_some a.val_delim)) (not (is_some a.terminator))
    (not a.allow_hyphen_values) (not a.allow_negative_numbers) (not a.require_equals) (not a.last) a.global h
