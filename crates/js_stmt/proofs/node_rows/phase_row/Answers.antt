use Rattle.std.proofs.Common.{Some}
use Rattle.js_stmt.proofs.node_rows.phase_row.Goals as goal

pub returns-in-Declared-clause-held : goal.returns-in-Declared-clause-held
returns-in-Declared-clause-held c = c.declared_row.ensures.held c.args.script.now c.requires.held

pub returns-in-Case-clause-held : goal.returns-in-Case-clause-held
returns-in-Case-clause-held c = c.case_row.ensures.held c.args.script.now c.requires.held

pub returns-in-Clauses-clause-held : goal.returns-in-Clauses-clause-held
returns-in-Clauses-clause-held c = c.clauses_row.ensures.held c.args.script.now

pub returns-in-Catch-clause-held : goal.returns-in-Catch-clause-held
returns-in-Catch-clause-held c = c.catch_row.ensures.held c.args.script.now c.requires.held

pub returns-in-Begun-clause-lent : goal.returns-in-Begun-clause-lent
returns-in-Begun-clause-lent c = c.begun_row.ensures.lent c.args.kept.now

pub returns-in-Declared-clause-lent : goal.returns-in-Declared-clause-lent
returns-in-Declared-clause-lent c =
    c.declared_row.ensures.lent c.args.script.now c.args.labelling c.args.kept.now

pub returns-in-LoopStart-clause-lent : goal.returns-in-LoopStart-clause-lent
returns-in-LoopStart-clause-lent c =
    c.loop_in_phase.ensures.lent c.args.script.now c.args.labelling (Some c.args.node.now)
    c.args.kept.now c.loop_parts.ensures.lent

pub returns-in-LoopTest-clause-lent : goal.returns-in-LoopTest-clause-lent
returns-in-LoopTest-clause-lent c =
    c.loop_in_phase-in-LoopTest.ensures.lent c.args.script.now c.args.labelling
    (Some c.args.node.now) c.args.kept.now c.loop_parts-in-LoopTest.ensures.lent

pub returns-in-LoopBody-clause-lent : goal.returns-in-LoopBody-clause-lent
returns-in-LoopBody-clause-lent c =
    c.loop_in_phase-in-LoopBody.ensures.lent c.args.script.now c.args.labelling
    (Some c.args.node.now) c.args.kept.now c.loop_parts-in-LoopBody.ensures.lent

pub returns-in-LoopUpdate-clause-lent : goal.returns-in-LoopUpdate-clause-lent
returns-in-LoopUpdate-clause-lent c =
    c.loop_in_phase-in-LoopUpdate.ensures.lent c.args.script.now c.args.labelling
    (Some c.args.node.now) c.args.kept.now c.loop_parts-in-LoopUpdate.ensures.lent

pub returns-in-Case-clause-lent : goal.returns-in-Case-clause-lent
returns-in-Case-clause-lent c = c.case_row.ensures.lent c.args.script.now c.args.kept.now

pub returns-in-Clauses-clause-lent : goal.returns-in-Clauses-clause-lent
returns-in-Clauses-clause-lent c = c.clauses_row.ensures.lent c.args.script.now c.args.kept.now

pub returns-in-Catch-clause-lent : goal.returns-in-Catch-clause-lent
returns-in-Catch-clause-lent c =
    c.catch_row.ensures.lent c.args.script.now c.args.labelling c.args.kept.now
