-- The program of a client. States `docs/HEAP.md`, "Clients".
use Rattle.py_code.specs.declared.program.Program.{Program}
use Rattle.py_step.specs.declared.client.PyClient.{PyClient}

abbrev pub program_in : PyClient → Program
program_in c = c.program
