-- The command that words are read as, and the words that spell it.
use Rattle.std.proofs.Common.{◌≡◌, ◌≤◌, ◌⊎◌, ◌↔◌, inl, inr, ℕ, nat_lt, IsTrue, Bool, true, false, List, [], ◌∷◌, Option, Some, None, refl, sym, ◌∙◌, ap, subst, arith}
use Rattle.std.proofs.lemmas.Bool.{lt-ltb, ltb-true}
use Rattle.std.proofs.lemmas.List.Sorted.{IsPermutation-append_comm, IsPermutation-refl}
use Rattle.std.proofs.lemmas.Option.{none-some, option_and_then_some, same_Some}
use Rattle.std.specs.List.Sorted.{IsPermutation}
use Rattle.std.specs.List.{AllByRecursion}
use Rattle.std.specs.Option.{IfSome, MatchOption, option_and_then}
use Rattle.std.specs.Prelude.{codes}
use Rattle.command_words.specs.declared.command.Command.{Command}
use Rattle.command_words.specs.declared.command.Command.TheVariants.{Play, Run, Gen}
use Rattle.command_words.specs.declared.reading.Settings.{Settings}
use Rattle.command_words.specs.declared.reading.Settings.TheVariants.{Empty, One, Two}
use Rattle.command_words.specs.declared.setting.Setting.{Setting}
use Rattle.command_words.specs.declared.setting.Setting.TheVariants.{Brief, Workers, Seed, Size}
use Rattle.command_words.specs.declared.setting.TheConstants.{MOST_WORKERS, GREATEST_SIZE}
use Rattle.command_words.specs.Commands.{AreSettings, IsCommand, IsInRange, IsSetting, Spells, WantsWorkers, name_of, settings_of}
use Rattle.command_words.specs.Reading.{command_of, first_setting, gen_of, more_in, play_of, run_of, settings_in, two_in}
use Rattle.command_words.proofs.OrderLaws.{order_of_none, order_of_one, order_of_two}
use Rattle.command_words.proofs.SettingLaws.{Begins, by_name, first_setting-some, first_setting-spelled}

-- ---- the settings

abbrev pub list_of : Settings → List Setting
list_of Empty = []
list_of (One s) = s ∷ []
list_of (Two s t) = s ∷ t ∷ []

two_in-some : (s t : Setting) (r : List (List ℕ)) (ss : Settings) → two_in s t r ≡ Some ss → (list_of ss ≡ s ∷ t ∷ []) × (r ≡ [])
two_in-some s t [] ss e = (ap list_of (sym (same_Some _ ss e)), refl)
two_in-some s t (word ∷ rest) ss e = absurd (none-some ss e)

with_one_more : (words : List (List ℕ)) (s : Setting) (r : List (List ℕ)) (ts : List Setting) → Begins words s r → AreSettings ts r → AreSettings (s ∷ ts) words
with_one_more words s r ts b h = (b.0, r, b.1, b.2, h)

more_in-some : (s : Setting) (r : List (List ℕ)) (ss : Settings) → more_in s r ≡ Some ss → (ts : List Setting) × (list_of ss ≡ s ∷ ts) × AreSettings ts r
more_in-some s [] ss e = ([], ap list_of (sym (same_Some _ ss e)), refl)
more_in-some s (word ∷ rest) ss e =
    option_and_then_some (λ (p : Setting × List (List ℕ)). two_in s p.0 p.1) (first_setting (word ∷ rest)) ss e (λ p first last.
    let two = two_in-some s p.0 p.1 ss last in
    (p.0 ∷ [], two.0, with_one_more (word ∷ rest) p.0 p.1 [] (first_setting-some (word ∷ rest) p.0 p.1 first) two.1))

-- what is read is spelled by the words
settings_in-some : (words : List (List ℕ)) (ss : Settings) → settings_in words ≡ Some ss → AreSettings (list_of ss) words
settings_in-some [] ss e = subst (λ (t : Settings). AreSettings (list_of t) []) (same_Some Empty ss e) refl
settings_in-some (word ∷ rest) ss e =
    option_and_then_some (λ (p : Setting × List (List ℕ)). more_in p.0 p.1) (first_setting (word ∷ rest)) ss e (λ p first more.
    let m = more_in-some p.0 p.1 ss more in
    subst (λ l. AreSettings l (word ∷ rest)) (sym m.1) (with_one_more (word ∷ rest) p.0 p.1 m.0 (first_setting-some (word ∷ rest) p.0 p.1 first) m.2))

no_first : (s : Setting) (r : List (List ℕ)) → first_setting [] ≡ Some (s, r) → ⊥
unfolding first_setting
no_first s r e = none-some (s, r) e

more_in-first : (s t : Setting) (words r : List (List ℕ)) → first_setting words ≡ Some (t, r) → more_in s words ≡ two_in s t r
more_in-first s t [] r e = absurd (no_first t r e)
more_in-first s t (word ∷ rest) r e = rw e refl

settings_in-first : (s : Setting) (words r : List (List ℕ)) → first_setting words ≡ Some (s, r) → settings_in words ≡ more_in s r
settings_in-first s [] r e = absurd (no_first s r e)
settings_in-first s (word ∷ rest) r e = rw e refl

first_of : (s : Setting) (ss : List Setting) (words : List (List ℕ)) (h : AreSettings (s ∷ ss) words) → first_setting words ≡ Some (s, h.1)
first_of s ss words h = ap first_setting h.2 ∙ first_setting-spelled s h.0 h.1 h.3

-- the words of one setting are read as it, and those of two as both
one-spelled : (s : Setting) (words : List (List ℕ)) → AreSettings (s ∷ []) words → settings_in words ≡ Some (One s)
one-spelled s words h = settings_in-first s words h.1 (first_of s [] words h) ∙ ap (more_in s) h.4

two-spelled : (s t : Setting) (words : List (List ℕ)) → AreSettings (s ∷ t ∷ []) words → settings_in words ≡ Some (Two s t)
two-spelled s t words h =
    settings_in-first s words h.1 (first_of s (t ∷ []) words h) ∙ more_in-first s t h.1 h.4.1 (first_of t [] h.1 h.4) ∙ ap (two_in s t) h.4.4

-- ---- the command

-- the name and these settings are those of the command
abbrev IsMadeOf : Command → List ℕ → List Setting → Type 0
IsMadeOf c name ss = (name ≡ name_of c) × IsPermutation (settings_of c) ss

play_of-some : (name : List ℕ) (ss : Settings) (c : Command) → name ≡ codes "play" → play_of ss ≡ Some c → IsMadeOf c name (list_of ss)
play_of-some name Empty c n e = subst (λ d. IsMadeOf d name []) (same_Some (Play false) c e) (n, IsPermutation-refl [])
play_of-some name (One Brief) c n e = subst (λ d. IsMadeOf d name (Brief ∷ [])) (same_Some (Play true) c e) (n, IsPermutation-refl (Brief ∷ []))
play_of-some name (One (Workers w)) c n e = absurd (none-some c e)
play_of-some name (One (Seed s)) c n e = absurd (none-some c e)
play_of-some name (One (Size s)) c n e = absurd (none-some c e)
play_of-some name (Two s t) c n e = absurd (none-some c e)

run_of-some : (name : List ℕ) (ss : Settings) (c : Command) → name ≡ codes "run" → run_of ss ≡ Some c → IsMadeOf c name (list_of ss)
run_of-some name Empty c n e = absurd (none-some c e)
run_of-some name (One Brief) c n e = absurd (none-some c e)
run_of-some name (One (Workers w)) c n e = subst (λ d. IsMadeOf d name (Workers w ∷ [])) (same_Some (Run w false) c e) (n, IsPermutation-refl (Workers w ∷ []))
run_of-some name (One (Seed s)) c n e = absurd (none-some c e)
run_of-some name (One (Size s)) c n e = absurd (none-some c e)
run_of-some name (Two (Workers w) Brief) c n e =
    subst (λ d. IsMadeOf d name (Workers w ∷ Brief ∷ [])) (same_Some (Run w true) c e) (n, IsPermutation-refl (Workers w ∷ Brief ∷ []))
run_of-some name (Two (Workers w) (Workers v)) c n e = absurd (none-some c e)
run_of-some name (Two (Workers w) (Seed s)) c n e = absurd (none-some c e)
run_of-some name (Two (Workers w) (Size s)) c n e = absurd (none-some c e)
run_of-some name (Two Brief Brief) c n e = absurd (none-some c e)
run_of-some name (Two Brief (Workers w)) c n e =
    subst (λ d. IsMadeOf d name (Brief ∷ Workers w ∷ [])) (same_Some (Run w true) c e) (n, IsPermutation-append_comm (Workers w ∷ []) (Brief ∷ []))
run_of-some name (Two Brief (Seed s)) c n e = absurd (none-some c e)
run_of-some name (Two Brief (Size s)) c n e = absurd (none-some c e)
run_of-some name (Two (Seed s) t) c n e = absurd (none-some c e)
run_of-some name (Two (Size s) t) c n e = absurd (none-some c e)

gen_of-some : (name : List ℕ) (ss : Settings) (c : Command) → name ≡ codes "gen" → gen_of ss ≡ Some c → IsMadeOf c name (list_of ss)
gen_of-some name Empty c n e = absurd (none-some c e)
gen_of-some name (One s) c n e = absurd (none-some c e)
gen_of-some name (Two (Seed s) (Size z)) c n e =
    subst (λ d. IsMadeOf d name (Seed s ∷ Size z ∷ [])) (same_Some (Gen s z) c e) (n, IsPermutation-refl (Seed s ∷ Size z ∷ []))
gen_of-some name (Two (Seed s) Brief) c n e = absurd (none-some c e)
gen_of-some name (Two (Seed s) (Workers w)) c n e = absurd (none-some c e)
gen_of-some name (Two (Seed s) (Seed z)) c n e = absurd (none-some c e)
gen_of-some name (Two (Size z) (Seed s)) c n e =
    subst (λ d. IsMadeOf d name (Size z ∷ Seed s ∷ [])) (same_Some (Gen s z) c e) (n, IsPermutation-append_comm (Seed s ∷ []) (Size z ∷ []))
gen_of-some name (Two (Size z) Brief) c n e = absurd (none-some c e)
gen_of-some name (Two (Size z) (Workers w)) c n e = absurd (none-some c e)
gen_of-some name (Two (Size z) (Size s)) c n e = absurd (none-some c e)
gen_of-some name (Two Brief t) c n e = absurd (none-some c e)
gen_of-some name (Two (Workers w) t) c n e = absurd (none-some c e)

command_of-some : (name : List ℕ) (ss : Settings) (c : Command) → command_of name ss ≡ Some c → IsMadeOf c name (list_of ss)
unfolding command_of
command_of-some name ss c e =
    let P = IsMadeOf c name (list_of ss) in
    by_name P name (codes "play") (play_of ss) _ c (play_of-some name ss c)
    (by_name P name (codes "run") (run_of ss) _ c (run_of-some name ss c)
    (by_name P name (codes "gen") (gen_of ss) None c (gen_of-some name ss c) (λ n. absurd (none-some c n)))) e

-- the settings of the command, as the words have them, are read, and with its name they are the command
abbrev IsReadAs : Command → List (List ℕ) → Type 0
IsReadAs c options = (ss : Settings) × (settings_in options ≡ Some ss) × (command_of (name_of c) ss ≡ Some c)

run-either : (w : ℕ) (settings : List Setting) (options : List (List ℕ)) → (settings ≡ Workers w ∷ Brief ∷ []) ⊎ (settings ≡ Brief ∷ Workers w ∷ []) → AreSettings settings options → IsReadAs (Run w true) options
unfolding command_of
run-either w settings options (inl e) h = (Two (Workers w) Brief, two-spelled (Workers w) Brief options (subst (λ l. AreSettings l options) e h), refl)
run-either w settings options (inr e) h = (Two Brief (Workers w), two-spelled Brief (Workers w) options (subst (λ l. AreSettings l options) e h), refl)

gen-either : (s z : ℕ) (settings : List Setting) (options : List (List ℕ)) → (settings ≡ Seed s ∷ Size z ∷ []) ⊎ (settings ≡ Size z ∷ Seed s ∷ []) → AreSettings settings options → IsReadAs (Gen s z) options
unfolding command_of
gen-either s z settings options (inl e) h = (Two (Seed s) (Size z), two-spelled (Seed s) (Size z) options (subst (λ l. AreSettings l options) e h), refl)
gen-either s z settings options (inr e) h = (Two (Size z) (Seed s), two-spelled (Size z) (Seed s) options (subst (λ l. AreSettings l options) e h), refl)

command-spelled : (c : Command) (settings : List Setting) (options : List (List ℕ)) → IsPermutation (settings_of c) settings → AreSettings settings options → IsReadAs c options
unfolding command_of
command-spelled (Play false) settings options p h =
    let none : options ≡ [] = subst (λ l. AreSettings l options) (order_of_none settings p) h in (Empty, ap settings_in none, refl)
command-spelled (Play true) settings options p h = (One Brief, one-spelled Brief options (subst (λ l. AreSettings l options) (order_of_one Brief settings p) h), refl)
command-spelled (Run w false) settings options p h =
    (One (Workers w), one-spelled (Workers w) options (subst (λ l. AreSettings l options) (order_of_one (Workers w) settings p) h), refl)
command-spelled (Run w true) settings options p h = run-either w settings options (order_of_two (Workers w) Brief settings p) h
command-spelled (Gen s z) settings options p h = gen-either s z settings options (order_of_two (Seed s) (Size z) settings p) h

-- ---- the words

abbrev pub read_words : List (List ℕ) → Option Command
read_words [] = None
read_words (name ∷ options) = option_and_then (command_of name) (settings_in options)

read-some : (words : List (List ℕ)) (c : Command) → read_words words ≡ Some c → Spells words c
read-some [] c e = absurd (none-some c e)
read-some (name ∷ options) c e =
    option_and_then_some (command_of name) (settings_in options) c e (λ ss settings made.
    let m = command_of-some name ss c made in
    record {
      options = options;
      settings = list_of ss;
      named = ap (λ n. n ∷ options) m.0;
      in_any_order = m.1;
      spelled = settings_in-some options ss settings;
    })

pub read-spelled : (words : List (List ℕ)) (c : Command) → Spells words c → read_words words ≡ Some c
read-spelled words c h =
    let r = command-spelled c h.settings h.options h.in_any_order h.spelled in
    ap read_words h.named ∙ ap (option_and_then (command_of (name_of c))) r.1 ∙ r.2

-- what is read of the words is the command that they spell
pub from_read : (words : List (List ℕ)) (r : Option Command) → read_words words ≡ r → MatchOption r (¬ IsCommand words) (λ c. Spells words c)
from_read words None e = λ h. none-some h.0 (sym e ∙ read-spelled words h.0 h.1)
from_read words (Some c) e = read-some words c e

-- ---- the ranges

abbrev IsSettingInRange : Setting → Type 0
IsSettingInRange Brief = Unit {0}
IsSettingInRange (Workers n) = n ≤ MOST_WORKERS
IsSettingInRange (Seed n) = Unit {0}
IsSettingInRange (Size n) = (1 ≤ n) × (n ≤ GREATEST_SIZE)

setting-in_range : (s : Setting) (words : List (List ℕ)) → IsSetting s words → IsSettingInRange s
setting-in_range Brief words h = tt
setting-in_range (Workers n) words h = h.0
setting-in_range (Seed n) words h = tt
setting-in_range (Size n) words h = (h.0, h.1)

settings-in_range : (ss : List Setting) (words : List (List ℕ)) → AreSettings ss words → AllByRecursion IsSettingInRange ss
settings-in_range [] words h = tt
settings-in_range (s ∷ ss) words h = (setting-in_range s h.0 h.3, settings-in_range ss h.1 h.4)

gen-in_range : (s z : ℕ) (settings : List Setting) → (settings ≡ Seed s ∷ Size z ∷ []) ⊎ (settings ≡ Size z ∷ Seed s ∷ []) → AllByRecursion IsSettingInRange settings → IsInRange (Gen s z)
gen-in_range s z settings (inl e) h = (subst (AllByRecursion IsSettingInRange) e h).1.0
gen-in_range s z settings (inr e) h = (subst (AllByRecursion IsSettingInRange) e h).0

run-in_range : (w : ℕ) (settings : List Setting) → (settings ≡ Workers w ∷ Brief ∷ []) ⊎ (settings ≡ Brief ∷ Workers w ∷ []) → AllByRecursion IsSettingInRange settings → w ≤ MOST_WORKERS
run-in_range w settings (inl e) h = (subst (AllByRecursion IsSettingInRange) e h).0
run-in_range w settings (inr e) h = (subst (AllByRecursion IsSettingInRange) e h).1.0

command-in_range : (c : Command) (settings : List Setting) → IsPermutation (settings_of c) settings → AllByRecursion IsSettingInRange settings → IsInRange c
command-in_range (Play brief) settings p h = tt
command-in_range (Run w false) settings p h = (subst (AllByRecursion IsSettingInRange) (order_of_one (Workers w) settings p) h).0
command-in_range (Run w true) settings p h = run-in_range w settings (order_of_two (Workers w) Brief settings p) h
command-in_range (Gen s z) settings p h = gen-in_range s z settings (order_of_two (Seed s) (Size z) settings p) h

-- the numbers of a command that words spell are in range
pub from_read-in_range : (words : List (List ℕ)) (r : Option Command) → MatchOption r (¬ IsCommand words) (λ c. Spells words c) → IfSome r (λ c. IsInRange c)
from_read-in_range words None h = tt
from_read-in_range words (Some c) h = command-in_range c h.settings h.in_any_order (settings-in_range h.settings h.options h.spelled)

pub spells_one : (words : List (List ℕ)) (c d : Command) → Spells words c → Spells words d → c ≡ d
spells_one words c d h k = same_Some c d (sym (read-spelled words c h) ∙ read-spelled words d k)

-- ---- worker threads

-- words that spell this command want workers exactly where it is a run with some
pub wants-run : (words : List (List ℕ)) (w : ℕ) (b : Bool) → Spells words (Run w b) → IsTrue (nat_lt 0 w) ↔ (WantsWorkers words)
wants-run words w b h = (
  (λ t. (w, b, h, ltb-true 0 w t)),
  (λ k. let same : Run w b ≡ Run k.0 k.1 = spells_one words (Run w b) (Run k.0 k.1) h k.2 in
      let number : w ≡ k.0 = cc in lt-ltb 0 w (omega (arith, k.3))),
)

no_run : (words : List (List ℕ)) (c : Command) → ((w : ℕ) (b : Bool) → c ≡ Run w b → ⊥) → Spells words c → IsTrue false ↔ (WantsWorkers words)
no_run words c other h = ((λ t. cc), (λ k. absurd (other k.0 k.1 (spells_one words c (Run k.0 k.1) h k.2))))

pub wants-play : (words : List (List ℕ)) (b : Bool) → Spells words (Play b) → IsTrue false ↔ (WantsWorkers words)
wants-play words b h = no_run words (Play b) (λ w v e. cc) h

pub wants-gen : (words : List (List ℕ)) (s z : ℕ) → Spells words (Gen s z) → IsTrue false ↔ (WantsWorkers words)
wants-gen words s z h = no_run words (Gen s z) (λ w v e. cc) h

pub wants-none : (words : List (List ℕ)) → ¬ IsCommand words → IsTrue false ↔ (WantsWorkers words)
wants-none words h = ((λ t. cc), (λ k. absurd (h (Run k.0 k.1, k.2))))
