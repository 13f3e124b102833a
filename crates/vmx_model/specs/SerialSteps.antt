-- The steps of the serial run's recursions.
use Rattle.std.proofs.Common.{◌≡◌, ℕ, ◌+◌, length, refl, add-one}
use Rattle.vmx_model.specs.Types.{Plan}
use Rattle.vmx_model.specs.Serial.{World, turn, turns, rounds}

pub turns_none : (plan : Plan) (n : ℕ) (w : World) → turns plan n 0 w ≡ w
unfolding turns
turns_none plan n w = refl

pub turns_more : (plan : Plan) (n g : ℕ) (w : World) → turns plan n (g + 1) w ≡ turn plan n g (turns plan n g w)
unfolding turns
turns_more plan n g w = rw (add-one g) refl

pub rounds_none : (plan : Plan) (w : World) → rounds plan 0 w ≡ w
unfolding rounds
rounds_none plan w = refl

pub rounds_more : (plan : Plan) (n : ℕ) (w : World) → rounds plan (n + 1) w ≡ turns plan n (length plan.guests) (rounds plan n w)
unfolding rounds
rounds_more plan n w = rw (add-one n) refl
