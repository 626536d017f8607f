-- The images of completions and of contexts: the values in them stand for what they are without
-- wraps.
use Rattle.js_value.specs.Image.{image}
use Rattle.js_term.specs.declared.completion.Completion.{Completion}
use Rattle.js_term.specs.declared.completion.Completion.TheVariants.{Break, Continue, Return, Throw}
use Rattle.js_term.specs.declared.context.Context.{Context}

abbrev pub plain_completion : Completion → Completion
plain_completion (Break label) = Break label
plain_completion (Continue label) = Continue label
plain_completion (Return v) = Return (image v)
plain_completion (Throw v) = Throw (image v)

abbrev pub plain_context : Context → Context
plain_context c = record { text = c.text; scope = c.scope; this = image c.this }
