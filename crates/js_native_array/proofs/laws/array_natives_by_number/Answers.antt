use Rattle.std.proofs.Common.{ap}
use Rattle.std.specs.Option.{option_and_then}
use Rattle.js_native_array.specs.Natives.{array_native_named}
use Rattle.js_native_array.proofs.laws.array_natives_by_number.Goals as goal

pub returns : goal.returns
returns c = λ b. ap (option_and_then array_native_named) (c.natives_are_numbered_apart.ensures.at b)
