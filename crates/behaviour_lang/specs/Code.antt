-- Which behaviours are well formed.
use Rattle.std.specs.Prelude.{◌≡◌, ◌≤◌, ℕ, ◌&&◌, Bool, true, nat_le, nat_lt, List, length, map}
use Rattle.std.specs.List.{IsDistinct, list_all}
use Rattle.std.specs.Str.{bytes_eq}
use Rattle.behaviour_lang.specs.Names.{is_behaviour_name, is_local_name}
use Rattle.behaviour_lang.specs.declared.code.Behaviour.{Behaviour}
use Rattle.behaviour_lang.specs.declared.instr.Instr.{Instr}
use Rattle.behaviour_lang.specs.declared.instr.Instr.TheVariants.{Spawn, Send, Drop, Keep, Work, Retire}
use Rattle.behaviour_lang.specs.declared.instr.Name.{Name}
use Rattle.behaviour_lang.specs.declared.instr.Name.TheVariants.{Own, Message, Local}

abbrev pub is_name : Name → Bool
is_name Own = true
is_name (Message k) = nat_lt k 16
is_name (Local name) = is_local_name name

-- an instruction, where there are n behaviours
abbrev pub is_instr : ℕ → Instr → Bool
is_instr n (Spawn x b) = is_local_name x && nat_lt b n
is_instr n (Send x refs) = is_name x && nat_le (length refs) 16 && list_all is_name refs
is_instr n (Drop x) = is_name x
is_instr n (Keep x m) = is_local_name x && nat_lt m 16
is_instr n (Work k) = nat_le k 10000
is_instr n Retire = true

abbrev pub is_instr_list : ℕ → List Instr → Bool
is_instr_list n instrs = nat_le (length instrs) 64 && list_all (is_instr n) instrs

abbrev pub is_behaviour : ℕ → Behaviour → Bool
is_behaviour n b = is_behaviour_name b.name && is_instr_list n b.wake && is_instr_list n b.message

-- at most 256 behaviours, each well formed, with names that differ
abbrev pub IsCode : List Behaviour → Type 0
IsCode bs =
    (length bs ≤ 256) × (list_all (is_behaviour (length bs)) bs ≡ true) × IsDistinct bytes_eq (map (λ b. b.name) bs)
