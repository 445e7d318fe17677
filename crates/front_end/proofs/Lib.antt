mod OneAnswer
mod SomeAnswer
