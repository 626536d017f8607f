use Rattle.js_rows.proofs.Counted.{caught_counted, completions_counted, conversion_counted, counting_counted, member_assigned, null_thrown, order_counted, recursion_counted, semicolons_counted}
use Rattle.js_rows.proofs.laws.scripts_take_their_steps.Goals as goal

pub returns : goal.returns
returns c = record {
  recursion = recursion_counted;
  completions = completions_counted;
  semicolons = semicolons_counted;
  order = order_counted;
  conversion = conversion_counted;
  counting = counting_counted;
  caught = caught_counted;
  member = member_assigned;
  null = null_thrown;
}
