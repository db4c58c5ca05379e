use Rattle.std.proofs.Common.{true}
use Rattle.guiding.proofs.Falls.{jump_falls}
use Rattle.guiding.proofs.laws.jumps_fall.Goals as goal

pub returns : goal.returns
returns g late es old mid new id back_to next added quiet l p sound =
    jump_falls (λ v i. true) 0 late es old mid new id back_to l quiet next added p sound
