use Rattle.std.proofs.Common.{refl, sym}
use Rattle.js_pieces.proofs.Gathering.{fits_as, makes_as, makes_if}
use Rattle.js_pieces.proofs.pieces.Pieces.node.Goals as goal

pub returns-in-This : goal.returns-in-This
returns-in-This c = record { is = sym c.in-This.is; taken = refl }

pub name-requires : goal.name-requires
name-requires c = fits_as c.args.self.now c.in-Name.is c.requires.fits

pub returns-in-Name : goal.returns-in-Name
returns-in-Name c = makes_as c.name.result c.args.self.now c.name.new.self c.in-Name.is c.name.ensures

pub returns-in-Null : goal.returns-in-Null
returns-in-Null c = record { is = sym c.in-Null.is; taken = refl }

pub returns-in-Bool : goal.returns-in-Bool
returns-in-Bool c = record { is = sym c.in-Bool.is; taken = refl }

pub text-requires : goal.text-requires
text-requires c = fits_as c.args.self.now c.in-Text.is c.requires.fits

pub returns-in-Text : goal.returns-in-Text
returns-in-Text c = makes_as c.text.result c.args.self.now c.text.new.self c.in-Text.is c.text.ensures

pub array-requires : goal.array-requires
array-requires c = fits_as c.args.self.now c.in-Array.is c.requires.fits

pub returns-in-Array : goal.returns-in-Array
returns-in-Array c = makes_if c.array.result c.args.self.now c.array.new.self c.in-Array.is c.array.ensures

pub object-requires : goal.object-requires
object-requires c = fits_as c.args.self.now c.in-Object.is c.requires.fits

pub returns-in-Object : goal.returns-in-Object
returns-in-Object c = makes_if c.object.result c.args.self.now c.object.new.self c.in-Object.is c.object.ensures

pub member-requires : goal.member-requires
member-requires c = fits_as c.args.self.now c.in-Member.is c.requires.fits

pub returns-in-Member : goal.returns-in-Member
returns-in-Member c = makes_as c.member.result c.args.self.now c.member.new.self c.in-Member.is c.member.ensures

pub index-requires : goal.index-requires
index-requires c = fits_as c.args.self.now c.in-Index.is c.requires.fits

pub returns-in-Index : goal.returns-in-Index
returns-in-Index c = makes_as c.index.result c.args.self.now c.index.new.self c.in-Index.is c.index.ensures

pub call-requires : goal.call-requires
call-requires c = fits_as c.args.self.now c.in-Call.is c.requires.fits

pub returns-in-Call : goal.returns-in-Call
returns-in-Call c = makes_as c.call.result c.args.self.now c.call.new.self c.in-Call.is c.call.ensures

pub created-requires : goal.created-requires
created-requires c = fits_as c.args.self.now c.in-New.is c.requires.fits

pub returns-in-New : goal.returns-in-New
returns-in-New c = makes_as c.created.result c.args.self.now c.created.new.self c.in-New.is c.created.ensures

pub postfix-requires : goal.postfix-requires
postfix-requires c = fits_as c.args.self.now c.in-Postfix.is c.requires.fits

pub returns-in-Postfix : goal.returns-in-Postfix
returns-in-Postfix c = makes_as c.postfix.result c.args.self.now c.postfix.new.self c.in-Postfix.is c.postfix.ensures

pub prefix-requires : goal.prefix-requires
prefix-requires c = fits_as c.args.self.now c.in-Prefix.is c.requires.fits

pub returns-in-Prefix : goal.returns-in-Prefix
returns-in-Prefix c = makes_as c.prefix.result c.args.self.now c.prefix.new.self c.in-Prefix.is c.prefix.ensures

pub unary-requires : goal.unary-requires
unary-requires c = fits_as c.args.self.now c.in-Unary.is c.requires.fits

pub returns-in-Unary : goal.returns-in-Unary
returns-in-Unary c = makes_as c.unary.result c.args.self.now c.unary.new.self c.in-Unary.is c.unary.ensures

pub binary-requires : goal.binary-requires
binary-requires c = fits_as c.args.self.now c.in-Binary.is c.requires.fits

pub returns-in-Binary : goal.returns-in-Binary
returns-in-Binary c = makes_as c.binary.result c.args.self.now c.binary.new.self c.in-Binary.is c.binary.ensures

pub both-requires : goal.both-requires
both-requires c = fits_as c.args.self.now c.in-And.is c.requires.fits

pub returns-in-And : goal.returns-in-And
returns-in-And c = makes_as c.both.result c.args.self.now c.both.new.self c.in-And.is c.both.ensures

pub either-requires : goal.either-requires
either-requires c = fits_as c.args.self.now c.in-Or.is c.requires.fits

pub returns-in-Or : goal.returns-in-Or
returns-in-Or c = makes_as c.either.result c.args.self.now c.either.new.self c.in-Or.is c.either.ensures

pub conditional-requires : goal.conditional-requires
conditional-requires c = fits_as c.args.self.now c.in-Conditional.is c.requires.fits

pub returns-in-Conditional : goal.returns-in-Conditional
returns-in-Conditional c = makes_as c.conditional.result c.args.self.now c.conditional.new.self c.in-Conditional.is c.conditional.ensures

pub assign-requires : goal.assign-requires
assign-requires c = fits_as c.args.self.now c.in-Assign.is c.requires.fits

pub returns-in-Assign : goal.returns-in-Assign
returns-in-Assign c = makes_as c.assign.result c.args.self.now c.assign.new.self c.in-Assign.is c.assign.ensures

pub comma-requires : goal.comma-requires
comma-requires c = fits_as c.args.self.now c.in-Comma.is c.requires.fits

pub returns-in-Comma : goal.returns-in-Comma
returns-in-Comma c = makes_as c.comma.result c.args.self.now c.comma.new.self c.in-Comma.is c.comma.ensures

pub block-requires : goal.block-requires
block-requires c = fits_as c.args.self.now c.in-Block.is c.requires.fits

pub returns-in-Block : goal.returns-in-Block
returns-in-Block c = makes_as c.block.result c.args.self.now c.block.new.self c.in-Block.is c.block.ensures

pub var-requires : goal.var-requires
var-requires c = fits_as c.args.self.now c.in-Var.is c.requires.fits

pub returns-in-Var : goal.returns-in-Var
returns-in-Var c = makes_as c.var.result c.args.self.now c.var.new.self c.in-Var.is c.var.ensures

pub returns-in-Empty : goal.returns-in-Empty
returns-in-Empty c = record { is = sym c.in-Empty.is; taken = refl }

pub expression-requires : goal.expression-requires
expression-requires c = fits_as c.args.self.now c.in-Expression.is c.requires.fits

pub returns-in-Expression : goal.returns-in-Expression
returns-in-Expression c = makes_as c.expression.result c.args.self.now c.expression.new.self c.in-Expression.is c.expression.ensures

pub choice-requires : goal.choice-requires
choice-requires c = fits_as c.args.self.now c.in-If.is c.requires.fits

pub returns-in-If : goal.returns-in-If
returns-in-If c = makes_as c.choice.result c.args.self.now c.choice.new.self c.in-If.is c.choice.ensures

pub do_while-requires : goal.do_while-requires
do_while-requires c = fits_as c.args.self.now c.in-DoWhile.is c.requires.fits

pub returns-in-DoWhile : goal.returns-in-DoWhile
returns-in-DoWhile c = makes_as c.do_while.result c.args.self.now c.do_while.new.self c.in-DoWhile.is c.do_while.ensures

pub while_loop-requires : goal.while_loop-requires
while_loop-requires c = fits_as c.args.self.now c.in-While.is c.requires.fits

pub returns-in-While : goal.returns-in-While
returns-in-While c = makes_as c.while_loop.result c.args.self.now c.while_loop.new.self c.in-While.is c.while_loop.ensures

pub for_loop-requires : goal.for_loop-requires
for_loop-requires c = fits_as c.args.self.now c.in-For.is c.requires.fits

pub returns-in-For : goal.returns-in-For
returns-in-For c = makes_as c.for_loop.result c.args.self.now c.for_loop.new.self c.in-For.is c.for_loop.ensures

pub for_in-requires : goal.for_in-requires
for_in-requires c = fits_as c.args.self.now c.in-ForIn.is c.requires.fits

pub returns-in-ForIn : goal.returns-in-ForIn
returns-in-ForIn c = makes_as c.for_in.result c.args.self.now c.for_in.new.self c.in-ForIn.is c.for_in.ensures

pub continued-requires : goal.continued-requires
continued-requires c = fits_as c.args.self.now c.in-Continue.is c.requires.fits

pub returns-in-Continue : goal.returns-in-Continue
returns-in-Continue c = makes_as c.continued.result c.args.self.now c.continued.new.self c.in-Continue.is c.continued.ensures

pub broken-requires : goal.broken-requires
broken-requires c = fits_as c.args.self.now c.in-Break.is c.requires.fits

pub returns-in-Break : goal.returns-in-Break
returns-in-Break c = makes_as c.broken.result c.args.self.now c.broken.new.self c.in-Break.is c.broken.ensures

pub returned-requires : goal.returned-requires
returned-requires c = fits_as c.args.self.now c.in-Return.is c.requires.fits

pub returns-in-Return : goal.returns-in-Return
returns-in-Return c = makes_as c.returned.result c.args.self.now c.returned.new.self c.in-Return.is c.returned.ensures

pub labelled-requires : goal.labelled-requires
labelled-requires c = fits_as c.args.self.now c.in-Labelled.is c.requires.fits

pub returns-in-Labelled : goal.returns-in-Labelled
returns-in-Labelled c = makes_as c.labelled.result c.args.self.now c.labelled.new.self c.in-Labelled.is c.labelled.ensures

pub switch-requires : goal.switch-requires
switch-requires c = fits_as c.args.self.now c.in-Switch.is c.requires.fits

pub returns-in-Switch : goal.returns-in-Switch
returns-in-Switch c = makes_as c.switch.result c.args.self.now c.switch.new.self c.in-Switch.is c.switch.ensures

pub thrown-requires : goal.thrown-requires
thrown-requires c = fits_as c.args.self.now c.in-Throw.is c.requires.fits

pub returns-in-Throw : goal.returns-in-Throw
returns-in-Throw c = makes_as c.thrown.result c.args.self.now c.thrown.new.self c.in-Throw.is c.thrown.ensures

pub guarded-requires : goal.guarded-requires
guarded-requires c = fits_as c.args.self.now c.in-Try.is c.requires.fits

pub returns-in-Try : goal.returns-in-Try
returns-in-Try c = makes_if c.guarded.result c.args.self.now c.guarded.new.self c.in-Try.is c.guarded.ensures
