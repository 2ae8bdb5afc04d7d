use Rattle.std.proofs.Common.{◌≡◌, ◌∙◌, ap, codes, pos}
use Rattle.clap.specs.declared.builder.value_parser.ValueParser.TheVariants.{Signed}
use Rattle.shop_words.specs.CommandLine.{number_rule}
use Rattle.shop_words.proofs.arguments.port_arg.Goals as goal

pub returns : goal.returns
returns c =
    let range : c.range.result ≡ Signed (pos 1) (pos 65535) = rw (c.value_parser.ensures, c.new.ensures.start, c.new.ensures.end) at c.range.ensures in
    (c.number_arg.ensures.0 ∙ ap (number_rule (codes "port")) range, c.number_arg.ensures.1)
