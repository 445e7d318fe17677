mod Line
