use Rattle.term_answers.proofs.words.any_value.Goals as goal

pub new_object-requires-in-function : goal.new_object-requires-in-function
new_object-requires-in-function c = c.function.ensures c.args.heap.now

pub new_object-requires-in-bound : goal.new_object-requires-in-bound
new_object-requires-in-bound c = c.bound.ensures c.args.heap.now

pub new_object-requires-in-builtin : goal.new_object-requires-in-builtin
new_object-requires-in-builtin c = c.builtin.ensures c.args.heap.now
