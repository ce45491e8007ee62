use Rattle.std.proofs.Common.{◌≡◌, None, ap, map, string_bytes, sym, ◌∙◌}
use Rattle.std.specs.Option.{option_and_then}
use Rattle.command_words.specs.Reading.{command_of}
use Rattle.command_words.proofs.CommandLaws.{from_read, from_read-in_range, read_words}
use Rattle.command_words.proofs.reading.read_command.Goals as goal

pub returns-in_err-all_settings-clause-spelled : goal.returns-in_err-all_settings-clause-spelled
returns-in_err-all_settings-clause-spelled c =
    let words : read_words (map string_bytes c.args.words.now) ≡ None = ap (λ ws. read_words (map string_bytes ws)) c.in_ok-name.ensures.cases.0
    ∙ ap (option_and_then (command_of (string_bytes c.in_ok-name.name.now))) (sym c.in_err-all_settings.ensures) in
    from_read (map string_bytes c.args.words.now) c.from_residual-in_err-all_settings.result (words ∙ sym c.from_residual-in_err-all_settings.ensures)

pub returns : goal.returns
returns c =
    let words : read_words (map string_bytes c.args.words.now) ≡ command_of (string_bytes c.in_ok-name.name.now) c.in_ok-all_settings.field-0
    = ap (λ ws. read_words (map string_bytes ws)) c.in_ok-name.ensures.cases.0
    ∙ ap (option_and_then (command_of (string_bytes c.in_ok-name.name.now))) (sym c.in_ok-all_settings.ensures) in
    let name : c.named_command.result ≡ command_of (string_bytes c.in_ok-name.name.now) c.in_ok-all_settings.field-0
    = c.named_command.ensures ∙ ap (λ n. command_of n c.in_ok-all_settings.field-0) c.deref.ensures in
    let spelled = from_read (map string_bytes c.args.words.now) c.named_command.result (words ∙ sym name) in
    record { spelled = spelled; in_range = from_read-in_range (map string_bytes c.args.words.now) c.named_command.result spelled }
