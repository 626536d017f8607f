use Rattle.std.proofs.Common.{[], ◌∷◌, refl, sym, ◌∙◌, ap}
use Rattle.std.specs.Option.{option_copied}
use Rattle.js_tree.specs.declared.node.ExpressionHead.{ExpressionHead}
use Rattle.js_tree.specs.declared.production.Production.TheVariants as production
use Rattle.js_tree.specs.declared.script.FunctionHead.TheVariants as head
use Rattle.js_tree.specs.Trees.{words}
use Rattle.js_grammar.specs.inner.Sorts as sort
use Rattle.js_pieces.specs.declared.pieces.Piece.TheVariants as piece
use Rattle.js_pieces.proofs.Declaring.{adds_function, body_there, expression_parts, same_nodes, scoped_as}
use Rattle.js_pieces.proofs.Gathering.{behind_fits, last_fits, others_fit}
use Rattle.js_pieces.proofs.pieces.Pieces.function.Goals as goal

pub pop_body-body-requires : goal.pop_body-body-requires
pop_body-body-requires c = last_fits sort.Body (sort.Words ∷ sort.Maybe_text ∷ []) c.args.self.now c.requires.fits

pub pop_words-parameters-requires : goal.pop_words-parameters-requires
pop_words-parameters-requires c =
    last_fits sort.Words (sort.Maybe_text ∷ []) c.pop_body-body.new.self
    (behind_fits sort.Body (sort.Words ∷ sort.Maybe_text ∷ []) (piece.Body c.pop_body-body.result) c.args.self.now
    c.pop_body-body.new.self c.requires.fits c.pop_body-body.ensures)

pub pop_maybe_text-name-requires : goal.pop_maybe_text-name-requires
pop_maybe_text-name-requires c =
    last_fits sort.Maybe_text [] c.pop_words-parameters.new.self
    (others_fit sort.Words (sort.Maybe_text ∷ []) c.pop_body-body.new.self c.pop_words-parameters.new.self (words c.pop_words-parameters.result)
    (behind_fits sort.Body (sort.Words ∷ sort.Maybe_text ∷ []) (piece.Body c.pop_body-body.result) c.args.self.now
    c.pop_body-body.new.self c.requires.fits c.pop_body-body.ensures)
    c.pop_words-parameters.ensures)

pub call_scope-requires : goal.call_scope-requires
call_scope-requires c =
    same_nodes c.args.script.now c.pop_body-body.result.statements c.as_slice-2.result.now c.as_slice-2.ensures
    (body_there c.args.script.now c.args.self.now c.pop_body-body.new.self c.pop_body-body.result c.requires.there c.pop_body-body.ensures)

pub add_function-requires : goal.add_function-requires
add_function-requires c =
    body_there c.args.script.now c.args.self.now c.pop_body-body.new.self c.pop_body-body.result c.requires.there c.pop_body-body.ensures

pub returns : goal.returns
returns c =
    let made : ExpressionHead = record { name = c.pop_maybe_text-name.result; parameters = c.pop_words-parameters.result } in
    adds_function c.add_function.result production.Function c.args.from c.args.to c.args.script.now c.args.self.now
    c.pop_maybe_text-name.new.self c.add_function.new.script (head.Expression c.in_ok-head.head) c.pop_body-body.result c.in_ok-scope.scope
    (record {
      mid = c.pop_body-body.new.self;
      is = refl;
      body_taken = c.pop_body-body.ensures;
      taken = expression_parts c.in_ok-head.head.value made c.pop_body-body.new.self c.pop_words-parameters.new.self c.pop_maybe_text-name.new.self c.in_ok-head.ensures.ok
          c.pop_words-parameters.ensures c.pop_maybe_text-name.ensures;
      scoped = scoped_as c.in_ok-scope.scope c.args.script.now.kept c.as_slice.result.now
          c.in_ok-head.head.value.parameters (option_copied c.as_ref.result) c.in_ok-head.head.value.name c.as_slice-2.result.now c.pop_body-body.result.statements
          (c.as_slice.ensures ∙ sym (ap (λ z. z.parameters) c.in_ok-head.ensures.ok))
          (c.as_ref.ensures.value ∙ sym (ap (λ z. z.name) c.in_ok-head.ensures.ok)) c.as_slice-2.ensures c.in_ok-scope.ensures;
    }) c.add_function.ensures.added c.add_function.ensures.number
