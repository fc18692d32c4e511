use Rattle.std.proofs.Common.{◌∷◌, [], codes, inl, refl}
use Rattle.clap.specs.declared.error.kind.ErrorKind.TheVariants.{MissingRequiredArgument, UnknownArgument, ValueValidation}
use Rattle.clap.proofs.OnLiterals.{clap_on_literals}
use Rattle.pipeline_runner.specs.Command.{AsksForHelp, HasLineFault, NamesFile}
use Rattle.pipeline_runner.proofs.command_line.sample_lines.Goals as goal

name : NamesFile (codes "row" ∷ []) (codes "row")
unfolding clap_on_literals
name = record { faultless = refl; named = refl }

options : NamesFile (codes "--workers=64" ∷ codes "row" ∷ codes "--target" ∷ codes "0" ∷ []) (codes "row")
unfolding clap_on_literals
options = record { faultless = refl; named = refl }

help : AsksForHelp (codes "row" ∷ codes "--help" ∷ [])
unfolding clap_on_literals
help = record { help = inl refl }

nothing : HasLineFault []
unfolding clap_on_literals
nothing = record { kind = MissingRequiredArgument; among = inl refl; other = λ e. cc }

stray : HasLineFault (codes "row" ∷ codes "other" ∷ [])
unfolding clap_on_literals
stray = record { kind = UnknownArgument; among = inl refl; other = λ e. cc }

many : HasLineFault (codes "row" ∷ codes "--workers" ∷ codes "65" ∷ [])
unfolding clap_on_literals
many = record { kind = ValueValidation; among = inl refl; other = λ e. cc }

none : HasLineFault (codes "row" ∷ codes "--workers" ∷ codes "0" ∷ [])
unfolding clap_on_literals
none = record { kind = ValueValidation; among = inl refl; other = λ e. cc }

large : HasLineFault (codes "row" ∷ codes "--target=4611686018427387905" ∷ [])
unfolding clap_on_literals
large = record { kind = ValueValidation; among = inl refl; other = λ e. cc }

pub returns : goal.returns
returns c = record { name = name; options = options; help = help; nothing = nothing; stray = stray; many = many; none = none; large = large }
