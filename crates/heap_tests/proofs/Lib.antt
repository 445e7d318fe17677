mod ScriptStands
