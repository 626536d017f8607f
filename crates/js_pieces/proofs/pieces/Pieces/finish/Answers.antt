use Rattle.js_grammar.specs.declared.symbol.Start.TheVariants as start
use Rattle.js_pieces.proofs.Declaring.{adds_text, last_is_whole, last_sort, no_other, text_there}
use Rattle.js_pieces.proofs.pieces.Pieces.finish.Goals as goal

pub pop_whole-text-requires : goal.pop_whole-text-requires
pop_whole-text-requires c = last_sort c.args.self.now c.requires.text

pub add_program-requires : goal.add_program-requires
add_program-requires c =
    text_there c.args.script.now c.args.self.now c.pop_whole-text.new.self c.pop_whole-text.result c.requires.there
    c.pop_whole-text.ensures

pub add_handler-requires : goal.add_handler-requires
add_handler-requires c =
    text_there c.args.script.now c.args.self.now c.pop_whole-text.new.self c.pop_whole-text.result c.requires.there
    c.pop_whole-text.ensures

pub returns-in-Program : goal.returns-in-Program
returns-in-Program c =
    adds_text c.add_program.result start.Program c.pop_whole-text.result c.args.script.now c.args.self.now
    c.pop_whole-text.new.self c.add_program.new.script c.pop_whole-text.ensures c.in-Program.is c.add_program.ensures

pub returns-in-Handler : goal.returns-in-Handler
returns-in-Handler c =
    adds_text c.add_handler.result start.Handler c.pop_whole-text.result c.args.script.now c.args.self.now
    c.pop_whole-text.new.self c.add_handler.new.script c.pop_whole-text.ensures c.in-Handler.is c.add_handler.ensures

pub unreachable-requires : goal.unreachable-requires
unreachable-requires c =
    let (start, is) = last_is_whole c.args.self.now c.pop_whole-text.new.self c.pop_whole-text.result c.requires.text
    c.pop_whole-text.ensures in
    no_other c.pop_whole-text.result.production start is c.in_default.not-Program c.in_default.not-Handler
