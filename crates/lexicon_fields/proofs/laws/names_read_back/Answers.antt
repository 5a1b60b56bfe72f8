use Rattle.lexicon_fields.proofs.Names.{names_are_read, part-read_back, refl}
use Rattle.lexicon_fields.specs.declared.architecture.Architecture.TheVariants as architecture
use Rattle.lexicon_fields.proofs.laws.names_read_back.Goals as goal

pub returns : goal.returns
returns c = record {
  architecture = names_are_read.architecture;
  -- written by tools/names/write: the law of names of each family
  arm = part-read_back architecture.Arm _ (λ _. refl);
  aarch64 = part-read_back architecture.Aarch64 _ (λ _. refl);
  x86_32 = part-read_back architecture.X86_32 _ (λ _. refl);
  mips32 = part-read_back architecture.Mips32 _ (λ _. refl);
  mips64 = part-read_back architecture.Mips64 _ (λ _. refl);
  riscv32 = part-read_back architecture.Riscv32 _ (λ _. refl);
  riscv64 = part-read_back architecture.Riscv64 _ (λ _. refl);
  clever = part-read_back architecture.Clever _ (λ _. refl);
  z80 = part-read_back architecture.Z80 _ (λ _. refl);
  -- end of what is written
  operating_system = names_are_read.operating_system;
  environment = names_are_read.environment;
  binary_format = names_are_read.binary_format;
  vendor = names_are_read.vendor;
}
