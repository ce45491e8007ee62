-- What follows from what a call ensures at a success, or where it gave something.
use Rattle.std.proofs.Common.{Result, Ok, Err, OnOk, OnSome, Option, Some, None}

pub on-ok : {A E : Type 0} (P Q : Type 0) (r : Result A E) → OnOk r P → (P → Q) → OnOk r Q
on-ok P Q (Ok x) holds follows = follows holds
on-ok P Q (Err e) holds follows = tt

pub on-some : {A : Type 0} (P Q : Type 0) (o : Option A) → OnSome o P → (P → Q) → OnSome o Q
on-some P Q (Some x) holds follows = follows holds
on-some P Q None holds follows = tt
