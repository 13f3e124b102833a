-- What an answer does to queue ends, by the deal of its command's order and its value.
use Rattle.std.specs.Prelude.{Option, Some, None}
use Rattle.vmx_device_state.specs.Deals.{Deal, Begins, Stops, Passes}

module _ {E : Type 0} where
  -- the ends that the machine holds after an answer, by those that it held and those of the command's bag
  abbrev pub ends_held : Deal → Option E → Option E → Option E
  ends_held Begins held given = given
  ends_held Stops held given = None
  ends_held Passes held given = held

  -- the ends in the answer's bag: none; those that were held, or where none were, those of the command; those of the command
  abbrev pub ends_back : Deal → Option E → Option E → Option E
  ends_back Begins held given = None
  ends_back Stops None given = given
  ends_back Stops (Some e) given = Some e
  ends_back Passes held given = given
