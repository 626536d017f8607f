use Rattle.std.proofs.Common.{◌≡◌, ◌∙◌, length, Err, ap, sym, arith, refl}
use Rattle.mug_text.specs.Text.{utf8_of}
use Rattle.input_log.specs.inner.Heads.{head_parts}
use Rattle.input_log.proofs.Heads.{head_takes, no_budget, no_page, no_range, not_utf8, parts_read}
use Rattle.input_log.proofs.reading.head_at.Goals as goal
use Rattle.input_log.proofs.reading.head_at.Goals.{then-budget-lt-BUDGET_LEAST-via-then-budget-lt-BUDGET_LEAST, then-budget-lt-BUDGET_LEAST-via-else-budget-lt-BUDGET_LEAST+then-budget-gt-STEPS_LIMIT, then-budget-lt-BUDGET_LEAST-via-else-budget-lt-BUDGET_LEAST+else-budget-gt-STEPS_LIMIT+then-page-gt-HEAD_PAGE_LIMIT}

pub returns-in_default-long_at : goal.returns-in_default-long_at
returns-in_default-long_at c =
    no_budget c.args.bytes.now c.in-Some.base.now c.in-Some.rest.now c.in-Some.ensures.0 c.in-Some.ensures.1 c.in_default-long_at.ensures

pub returns-in_default-sized_at : goal.returns-in_default-sized_at
returns-in_default-sized_at c =
    no_page c.args.bytes.now c.in-Some.base.now c.in-Some.rest.now c.in-Some-long_at.rest.now c.in-Some-long_at.budget c.in-Some.ensures.0 c.in-Some-long_at.ensures.0 c.in-Some.ensures.1 c.in-Some-long_at.ensures.1 c.in_default-sized_at.ensures

pub returns-then-budget-lt-BUDGET_LEAST : goal.returns-then-budget-lt-BUDGET_LEAST
returns-then-budget-lt-BUDGET_LEAST c =
    let is = parts_read c.args.bytes.now c.in-Some.base.now c.in-Some.rest.now c.in-Some-long_at.rest.now c.in-Some-sized_at.page.now c.in-Some-sized_at.field-0-1.now c.in-Some-long_at.budget c.in-Some.ensures.1 c.in-Some-long_at.ensures.1 c.in-Some-sized_at.ensures.1 in
    no_range c.args.bytes.now c.in-Some.base.now c.in-Some-sized_at.page.now c.in-Some-sized_at.field-0-1.now c.in-Some-long_at.budget c.in-Some.ensures.0 c.in-Some-long_at.ensures.0 c.in-Some-sized_at.ensures.0 is (λ least most short.
    elim c.then-budget-lt-BUDGET_LEAST.branch [
      | then-budget-lt-BUDGET_LEAST-via-then-budget-lt-BUDGET_LEAST w ↦ omega arith
      | then-budget-lt-BUDGET_LEAST-via-else-budget-lt-BUDGET_LEAST+then-budget-gt-STEPS_LIMIT w ↦ omega arith
      | then-budget-lt-BUDGET_LEAST-via-else-budget-lt-BUDGET_LEAST+else-budget-gt-STEPS_LIMIT+then-page-gt-HEAD_PAGE_LIMIT w ↦ omega arith
    ])

pub returns-in-Err-NotUtf8 : goal.returns-in-Err-NotUtf8
returns-in-Err-NotUtf8 c =
    let is = parts_read c.args.bytes.now c.in-Some.base.now c.in-Some.rest.now c.in-Some-long_at.rest.now c.in-Some-sized_at.page.now c.in-Some-sized_at.field-0-1.now c.in-Some-long_at.budget c.in-Some.ensures.1 c.in-Some-long_at.ensures.1 c.in-Some-sized_at.ensures.1 in
    let refused = c.in-Err-NotUtf8.is ∙ (λ i. Err (c.in-Err-NotUtf8.field-0-is i)) in
    not_utf8 c.args.bytes.now c.in-Some.base.now c.in-Some-sized_at.page.now c.in-Some-sized_at.field-0-1.now c.in-Some-long_at.budget c.in-Some.ensures.0 c.in-Some-long_at.ensures.0 c.in-Some-sized_at.ensures.0 is (c.from_utf8.ensures.no_text _ refused)

pub returns : goal.returns
returns c =
    let is = parts_read c.args.bytes.now c.in-Some.base.now c.in-Some.rest.now c.in-Some-long_at.rest.now c.in-Some-sized_at.page.now c.in-Some-sized_at.field-0-1.now c.in-Some-long_at.budget c.in-Some.ensures.1 c.in-Some-long_at.ensures.1 c.in-Some-sized_at.ensures.1 in
    let whole : utf8_of c.in-Ok.base ≡ c.in-Some.base.now = c.in-Ok.ensures.whole in
    let page : c.in_ok-page.page ≡ c.in-Some-sized_at.page.now = c.in_ok-page.ensures in
    record {
      base = c.in-Ok.base;
      budget = c.in-Some-long_at.budget;
      page = c.in_ok-page.page;
      rest = c.in-Some-sized_at.field-0-1.now;
      head = refl;
      valid = (record { units = c.in-Ok.ensures.units; well_formed = c.in-Ok.ensures.well_formed; sized = omega (arith, ap length whole, c.in-Some.ensures.0) }, omega arith, omega arith, omega (arith, ap length page));
      is = is ∙ (λ i. head_parts (sym whole i) c.in-Some-long_at.budget (sym page i) c.in-Some-sized_at.field-0-1.now);
      takes = head_takes c.in-Ok.base c.in-Some-long_at.budget c.in_ok-page.page _ _ whole page;
    }
