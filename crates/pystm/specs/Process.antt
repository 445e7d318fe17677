-- What the status of the process is. States `docs/LANGUAGE.md`, "The top call".
use Rattle.std.specs.Prelude.{◌≡◌, ℕ, List}
use Rattle.py_frames.specs.Laws.{prog_of}
use Rattle.front_end.specs.TextCode.{HasCode, IsRefused}
use Rattle.stm_top.specs.declared.status.Status.{Status}
use Rattle.stm_top.specs.Answer.{number_of}
use Rattle.stm_top.specs.TopCall.{Devices, Told, Answered}

-- it is the number of the status that the top call answers, for its cause, to these words over these devices
pub record IsAnswered (words : List (List ℕ)) (before : Devices) (n : ℕ) : Type 0 where
  pub status : Status
  pub text : List ℕ
  pub told : Told
  pub after : Devices
  pub answered : Answered HasCode IsRefused prog_of words before status text told after
  pub is : n ≡ number_of status
