use Rattle.std.proofs.Common.{◌≡◌, ◌++◌, ◌∷◌, [], ◌∙◌, ap, rules}
use Rattle.log_frames.specs.Frames.{frame}
use Rattle.session_store.specs.Keeping.{StoreState}
use Rattle.session_store.proofs.Writes.{committed, left_behind}
use Rattle.session_store.proofs.keeper.Store.commit.Goals as goal

pub returns-then-is_err-clause-left : goal.returns-then-is_err-clause-left
returns-then-is_err-clause-left g c = λ fault frames items gate rest shut place payload is.
    let filled : c.deref.result.now ≡ frame c.args.payload.now ++ 0 ∷ [] = c.deref.ensures.value ∙ search rules in
    let here : c.self.inside.place ≡ c.args.self.now.place = ap (λ (s : StoreState). s.place) c.self.view_is in
    left_behind frames items gate rest c.args.payload.now c.deref.result.now c.self.inside.place _ _ shut (here ∙ place) payload filled is (search rules)

pub returns-clause-file : goal.returns-clause-file
returns-clause-file g c = λ frames items gate rest place payload is.
    let filled : c.deref.result.now ≡ frame c.args.payload.now ++ 0 ∷ [] = c.deref.ensures.value ∙ search rules in
    let here : c.self.inside.place ≡ c.args.self.now.place = ap (λ (s : StoreState). s.place) c.self.view_is in
    committed frames items gate rest c.args.payload.now c.deref.result.now c.self.inside.place _ _ (here ∙ place) payload filled is (search rules)
