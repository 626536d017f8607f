use Rattle.js_expr.proofs.Going.{went_first, went_on, went_down, still_goes, arrived, ended}
use Rattle.js_expr.proofs.reading.Reading.run.Goals as goal

pub steps-init : goal.steps-init
steps-init c = went_first c.args.tokens.now c.args.names c.args.self.now c.requires.at

pub step-requires : goal.step-requires
step-requires c = record { at = c.steps.invariant.at; goes = still_goes c.steps.invariant c.requires.goes }

pub steps-preserved : goal.steps-preserved
steps-preserved c = went_on c.steps.invariant c.step.new.self c.in_ok-step.field-0 c.in-On.is c.in_ok-step.ensures.at (still_goes c.steps.invariant c.requires.goes) c.in_ok-step.ensures.goes

pub steps-smaller : goal.steps-smaller
steps-smaller c = went_down c.args.tokens.now c.args.names c.steps.self c.step.new.self c.in_ok-step.field-0 c.in-On.is (still_goes c.steps.invariant c.requires.goes) c.in_ok-step.ensures.goes

pub returns-in-Behind-clause-arrives : goal.returns-in-Behind-clause-arrives
returns-in-Behind-clause-arrives c = arrived c.steps.invariant c.step.new.self c.in_ok-step.field-0 c.in-Behind.is c.in_ok-step.ensures.goes

pub returns-in-Ended-clause-arrives : goal.returns-in-Ended-clause-arrives
returns-in-Ended-clause-arrives c = ended c.steps.invariant c.step.new.self c.in_ok-step.field-0 c.in-Ended.end c.in-Ended.is c.in_ok-step.ensures.goes
