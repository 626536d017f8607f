-- The three rows commute with the image.
use Rattle.std.specs.Prelude.{List, [], ◌∷◌, map, ◌≡◌, refl, ℕ, suc, false}
use Rattle.std.proofs.Common.{ap}
use Rattle.js_value.specs.declared.value.Value.{Value}
use Rattle.js_value.specs.declared.value.Value.TheVariants.{Undefined}
use Rattle.js_value.specs.Image.{image}
use Rattle.js_heap.specs.World.{World}
use Rattle.js_term.specs.declared.completion.Completion.{Completion}
use Rattle.js_term.specs.declared.completion.Completion.TheVariants.{Break, Continue, Return, Throw}
use Rattle.js_term.specs.Completions.{plain_completion}
use Rattle.js_term.specs.Images.{TablesCommute, plain_step}
use Rattle.js_term.specs.Table.Step.{Gives}
use Rattle.js_term.specs.Term.Term.{Val}
use Rattle.js_term.specs.declared.context.Context.{Context}
use Rattle.js_term.specs.Contraction.{contract}
use Rattle.js_term.specs.Contraction.Contraction.{Steps}
use Rattle.js_term.specs.inner.ThreeRows.{Row, guarded, last_behind, met, pair, same_images, statement, three_rows}
use Rattle.js_term.specs.inner.ThreeRows.Row.{Last, Statements, Guard}

last_behind-image : (v : Value) (vs : List Value) → last_behind (image v) (map image vs) ≡ image (last_behind v vs)
last_behind-image v [] = refl
last_behind-image v (u ∷ us) = last_behind-image u us

met-plain : (w : World) (h : ℕ) (r : Row) (k : Completion) → met w h r (plain_completion k) ≡ plain_step three_rows three_rows same_images (met w h r k)
met-plain w h Last (Break l) = refl
met-plain w h Last (Continue l) = refl
met-plain w h Last (Return v) = refl
met-plain w h Last (Throw v) = refl
met-plain w h Statements (Break l) = refl
met-plain w h Statements (Continue l) = refl
met-plain w h Statements (Return v) = refl
met-plain w h Statements (Throw v) = refl
met-plain w h Guard (Break l) = refl
met-plain w h Guard (Continue l) = refl
met-plain w h Guard (Return v) = refl
met-plain w h Guard (Throw v) = refl

pub three_rows-commute : TablesCommute three_rows three_rows same_images
three_rows-commute = record {
  no_step = λ r. refl;
  inner = λ r c. refl;
  is_early = λ r vs. refl;
  early = λ c w h r vs ts. refl;
  late = λ r vs e. refl;
  make = λ c w h r vs s e. ap (λ v. Gives (Val v) w (suc h)) (last_behind-image Undefined vs);
  meets = λ c w h r k. met-plain w h r k;
  free = λ c w h r vs e. refl;
  plain_enters = λ c w h r vs. refl;
  entry = λ c w h r vs e f. cc;
  before = λ w h f r vs l e. cc;
  behind = λ h k f stopped e. cc;
}

pub finished : (c : Context) (w : World) (u v : Value) → contract three_rows c w 0 (statement (pair u v)) ≡ Steps false (Val Undefined) w 1
unfolding contract
finished c w u v = refl

pub met-throw : (c : Context) (w : World) (v : Value) → contract three_rows c w 0 (statement (guarded v)) ≡ Steps false (Val Undefined) w 1
unfolding contract
met-throw c w v = refl
