use Rattle.js_productions.specs.Glances.{sight_of}
use Rattle.js_productions.proofs.Always.{always, with_top}
use Rattle.js_productions.proofs.productions.produce.Goals as goal

pub returns-in-Updated : goal.returns-in-Updated
returns-in-Updated c = always c.updated.result c.args.part _ c.args.stack.now c.updated.new.stack (sight_of c.args.glance c.args.tokens.now) c.args.last c.in-Updated.is c.updated.ensures

pub returns-in-Operand : goal.returns-in-Operand
returns-in-Operand c = always c.operand.result c.args.part _ c.args.stack.now c.operand.new.stack (sight_of c.args.glance c.args.tokens.now) c.args.last c.in-Operand.is c.operand.ensures

pub returns-in-TargetOperand : goal.returns-in-TargetOperand
returns-in-TargetOperand c = always c.target_operand.result c.args.part _ c.args.stack.now c.target_operand.new.stack (sight_of c.args.glance c.args.tokens.now) c.args.last c.in-TargetOperand.is c.target_operand.ensures

pub returns-in-Arguments : goal.returns-in-Arguments
returns-in-Arguments c = always c.arguments.result c.args.part _ c.args.stack.now c.arguments.new.stack (sight_of c.args.glance c.args.tokens.now) c.args.last c.in-Arguments.is c.arguments.ensures

pub returns-in-Accessed : goal.returns-in-Accessed
returns-in-Accessed c = always c.accessed.result c.args.part _ c.args.stack.now c.accessed.new.stack (sight_of c.args.glance c.args.tokens.now) c.args.last c.in-Accessed.is c.accessed.ensures

pub returns-in-Value : goal.returns-in-Value
returns-in-Value c = always c.value.result c.args.part _ c.args.stack.now c.value.new.stack (sight_of c.args.glance c.args.tokens.now) c.args.last c.in-Value.is c.value.ensures

pub returns-in-Braced : goal.returns-in-Braced
returns-in-Braced c = always c.braced.result c.args.part _ c.args.stack.now c.braced.new.stack (sight_of c.args.glance c.args.tokens.now) c.args.last c.in-Braced.is c.braced.ensures

pub returns-in-Declarations : goal.returns-in-Declarations
returns-in-Declarations c = always c.declarations.result c.args.part _ c.args.stack.now c.declarations.new.stack (sight_of c.args.glance c.args.tokens.now) c.args.last c.in-Declarations.is c.declarations.ensures

pub returns-in-Declarator : goal.returns-in-Declarator
returns-in-Declarator c = always c.declarator.result c.args.part _ c.args.stack.now c.declarator.new.stack (sight_of c.args.glance c.args.tokens.now) c.args.last c.in-Declarator.is c.declarator.ensures

pub returns-in-ForObject : goal.returns-in-ForObject
returns-in-ForObject c = always c.for_object.result c.args.part _ c.args.stack.now c.for_object.new.stack (sight_of c.args.glance c.args.tokens.now) c.args.last c.in-ForObject.is c.for_object.ensures

pub returns-in-ForStart : goal.returns-in-ForStart
returns-in-ForStart c = always c.for_start.result c.args.part _ c.args.stack.now c.for_start.new.stack (sight_of c.args.glance c.args.tokens.now) c.args.last c.in-ForStart.is c.for_start.ensures

pub returns-in-Prefixed : goal.returns-in-Prefixed
returns-in-Prefixed c = with_top c.prefixed.result c.args.part _ c.args.stack.now c.prefixed.new.stack (sight_of c.args.glance c.args.tokens.now) c.args.last c.in-Prefixed.is c.prefixed.ensures
