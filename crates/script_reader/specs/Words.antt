-- The words of a script, as they are spelled.
use Rattle.std.specs.Prelude.{ℕ, List, codes}
use Rattle.script_reader.specs.declared.words.Word.{Word}
use Rattle.script_reader.specs.declared.words.Word.TheVariants.{Script, Behaviour, Seed, Tie, Loss, Repeat, Crash, Nodes, Behaviours, Seeds, Ties, Losses, Repeats, Crashes, Turns, Name, Wake, Message, Node, Wakes, From, To, As, Number, After}

abbrev pub spelled : Word → List ℕ
spelled Script = codes "script"
spelled Behaviour = codes "behaviour"
spelled Seed = codes "seed"
spelled Tie = codes "tie"
spelled Loss = codes "loss"
spelled Repeat = codes "repeat"
spelled Crash = codes "crash"
spelled Nodes = codes "nodes"
spelled Behaviours = codes "behaviours"
spelled Seeds = codes "seeds"
spelled Ties = codes "ties"
spelled Losses = codes "losses"
spelled Repeats = codes "repeats"
spelled Crashes = codes "crashes"
spelled Turns = codes "turns"
spelled Name = codes "name"
spelled Wake = codes "wake"
spelled Message = codes "message"
spelled Node = codes "node"
spelled Wakes = codes "wakes"
spelled From = codes "from"
spelled To = codes "to"
spelled As = codes "as"
spelled Number = codes "number"
spelled After = codes "after"
