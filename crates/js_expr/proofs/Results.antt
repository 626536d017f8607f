-- What is known of a result, in other words.
use Rattle.std.proofs.Common.{Result, Ok, Err, IfOk, OnOk}
use Rattle.mug_text.specs.declared.memory.NoMemory.{NoMemory}

pub weaker : {V : Type 0} (r : Result V NoMemory) (P Q : V → Type 0) → ((v : V) → P v → Q v) → IfOk r P → IfOk r Q
weaker (Ok v) P Q f h = f v h
weaker (Err e) P Q f h = tt

pub weaker_fact : {V : Type 0} (r : Result V NoMemory) (P Q : Type 0) → (P → Q) → OnOk r P → OnOk r Q
weaker_fact (Ok v) P Q f h = f h
weaker_fact (Err e) P Q f h = tt
