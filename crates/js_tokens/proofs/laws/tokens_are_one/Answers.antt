use Rattle.js_tokens.proofs.Ones.{one_list, never_both, one_place}
use Rattle.js_tokens.proofs.laws.tokens_are_one.Goals as goal

pub returns : goal.returns
returns c = record {
  one_list = λ text ts us. one_list text 0 ts us;
  never_both = λ text ts at. never_both text 0 ts at;
  one_place = λ text at place. one_place text 0 at place;
}
