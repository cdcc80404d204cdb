-- What the code's rights stand for.
use Rattle.mapping.specs.Pages.{Rights, rights}
use Rattle.walk.specs.declared.rights.Rights as code

abbrev pub rights_held : code.Rights → Rights
rights_held r = rights r.writable r.user r.no_execute
