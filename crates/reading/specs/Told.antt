-- What a question tells that hands something out where it is answered yes.
use Rattle.std.specs.Prelude.{Ok, Err, Result}
use Rattle.drive.specs.declared.fault.Fault.{Fault}
use Rattle.drive.specs.Faults.{Refusal, told}

-- what f tells of the thing handed out, or what the refusal tells
abbrev pub told_with : {X Y : Type 0} → (X → Y) → Result X Fault → Result Y Refusal
told_with f (Ok x) = Ok (f x)
told_with f (Err e) = Err (told e)
