use Rattle.html_profile.proofs.Inserted.{same_place, same_page}
use Rattle.html_profile.proofs.laws.inserted_script_is_passed_over.Goals as goal

pub returns : goal.returns
returns c = λ q none. record { place = same_place q; page = λ page. same_page q page none }
